-- A factor is cut at its point.
use Rattle.std.proofs.Common.{◌≡◌, ◌≢◌, ℕ, ℤ, zero, suc, ◌<◌, ◌==◌, Bool, true, false, cond, if◌then◌else◌, drop, get_or, List, [], ◌∷◌, ◌++◌, length, Option, Some, None, IfSome, codes, nat_eq, refl, sym, ap, ◌∙◌, subst, arith, append-nil, length-append}
use Rattle.std.specs.List.{starts_with}
use Rattle.std.specs.Borrow.{Bor}
use Rattle.std.specs.Char.{digit_value}
use Rattle.std.specs.Str.Parse.{AllDigits, signed_digits_value}
use Rattle.std.proofs.Math.Seq.{get_or-append_seam}
use Rattle.std.proofs.lemmas.Bool.{eqb-true}
use Rattle.std.proofs.lemmas.Str.Pattern.{IsSplitOnceResult, split_after, split_parts}
use Rattle.value_types.specs.declared.values.PortType.TheVariants.{Int64}
use Rattle.value_types.specs.Reading.{Reads, Writes}
use Rattle.transformations.specs.Numbers.{AreZeros, IsFraction, WritesFactor}

abbrev NoPoint : List ℕ → Type 0
NoPoint xs = (i : ℕ) → i < length xs → get_or xs i 0 ≢ 46

-- ---- digits have no point

digits_lack : (ds : List ℕ) → AllDigits 10 ds → NoPoint ds
digits_lack [] all i within e = absurd (omega (arith, within))
digits_lack (c ∷ cs) all zero within e =
    let high : digit_value 46 < 10 = subst (λ (z : ℕ). digit_value z < 10) e all.0 in
    absurd (omega (arith, high))
digits_lack (c ∷ cs) all (suc i) within e = digits_lack cs all.1 i (omega (arith, within)) e

signed_lack : (c : ℕ) (cs : List ℕ) (minus plus : Bool) → (c == 45) ≡ minus → (c == 43) ≡ plus → AllDigits 10 (cond minus cs (drop (cond plus 1 0) (c ∷ cs))) → NoPoint (c ∷ cs)
signed_lack c cs true plus e f all zero within h = let is : c ≡ 45 = eqb-true c 45 e in absurd (omega (arith, is, h))
signed_lack c cs true plus e f all (suc i) within h = digits_lack cs all i (omega (arith, within)) h
signed_lack c cs false true e f all zero within h = let is : c ≡ 43 = eqb-true c 43 f in absurd (omega (arith, is, h))
signed_lack c cs false true e f all (suc i) within h = digits_lack cs all i (omega (arith, within)) h
signed_lack c cs false false e f all i within h = digits_lack (c ∷ cs) all i within h

whole_lacks : (whole : List ℕ) (value : ℤ) → Writes whole value → NoPoint whole
whole_lacks [] value is = λ i within. absurd (omega (arith, within))
whole_lacks (c ∷ cs) value is = signed_lack c cs (c == 45) (c == 43) refl refl is.digits.1

-- ---- cut at the point

shorter : (a b : List ℕ) → length a < length (a ++ 46 ∷ b)
shorter a b = let all = length-append a (46 ∷ b) in omega (arith, all)

pub factor_cut : (text whole zeros : List ℕ) (o : Option ℤ) → text ≡ whole ++ 46 ∷ zeros → AreZeros zeros → IfSome o (λ v. starts_with nat_eq whole (codes "+") ≡ false) → IfSome o (Reads Int64 whole) → IfSome o (WritesFactor text)
factor_cut text whole zeros None is are plain reads = tt
factor_cut text whole zeros (Some v) is are plain reads = record { whole = whole; fraction = 46 ∷ zeros; text_is = is; no_plus = plain; reads = reads; zeros = (refl, are) }

-- what a factor says of its part before the point
pub record IsCut (whole zeros : List ℕ) (value : ℤ) : Type 0 where
  pub plain : starts_with nat_eq whole (codes "+") ≡ false
  pub reads : Reads Int64 whole value
  pub are : AreZeros zeros

pub cut_some : (text : List ℕ) (value : ℤ) (x : Bor (List ℕ) × Bor (List ℕ)) → IsSplitOnceResult 46 text (Some x) → WritesFactor text value → IsCut x.0.now x.1.now value
cut_some text value x split is = at is.fraction refl is.zeros
  where
    lacks : NoPoint is.whole
    lacks = whole_lacks is.whole value is.reads.0

    at : (fraction : List ℕ) → is.fraction ≡ fraction → IsFraction fraction → IsCut x.0.now x.1.now value
    at [] e zeros =
        let parts = split_parts 46 text (Some x) split (omega arith) in
        let same : x.0.now ++ 46 ∷ x.1.now ≡ is.whole = sym parts.0 ∙ is.text_is ∙ ap (λ (f : List ℕ). is.whole ++ f) e ∙ append-nil is.whole in
        let long : length x.0.now < length (x.0.now ++ 46 ∷ x.1.now) = shorter x.0.now x.1.now in
        absurd (subst NoPoint (sym same) lacks (length x.0.now) long (get_or-append_seam x.0.now 46 x.1.now 0))
    at (c ∷ zeros) e are =
        let parts = split_after 46 text is.whole zeros (Some x) split (omega arith) (is.text_is ∙ ap (λ (f : List ℕ). is.whole ++ f) (e ∙ ap (λ (z : ℕ). z ∷ zeros) are.0)) lacks in
        let plain : starts_with nat_eq x.0.now (codes "+") ≡ false = subst (λ (z : List ℕ). starts_with nat_eq z (codes "+") ≡ false) (sym parts.0) is.no_plus in
        let reads : Reads Int64 x.0.now value = subst (λ (z : List ℕ). Reads Int64 z value) (sym parts.0) is.reads in
        record { plain = plain; reads = reads; are = subst AreZeros (sym parts.1) are.1 }

pub cut_none : (text : List ℕ) (value : ℤ) → IsSplitOnceResult 46 text None → WritesFactor text value → (starts_with nat_eq text (codes "+") ≡ false) × Reads Int64 text value
cut_none text value split is = at is.fraction refl is.zeros
  where
    at : (fraction : List ℕ) → is.fraction ≡ fraction → IsFraction fraction → (starts_with nat_eq text (codes "+") ≡ false) × Reads Int64 text value
    at [] e zeros =
        let same : is.whole ≡ text = sym (is.text_is ∙ ap (λ (f : List ℕ). is.whole ++ f) e ∙ append-nil is.whole) in
        (subst (λ (z : List ℕ). starts_with nat_eq z (codes "+") ≡ false) same is.no_plus, subst (λ (z : List ℕ). Reads Int64 z value) same is.reads)
    at (c ∷ zeros) e are =
        absurd (split_after 46 text is.whole zeros None split (omega arith) (is.text_is ∙ ap (λ (f : List ℕ). is.whole ++ f) (e ∙ ap (λ (z : ℕ). z ∷ zeros) are.0)) (whole_lacks is.whole value is.reads.0))

-- ---- one number

-- what stands before the first point
before_point : List ℕ → List ℕ
before_point [] = []
before_point (c ∷ cs) = if c == 46 then [] else c ∷ before_point cs

before_whole : (whole fraction : List ℕ) → NoPoint whole → IsFraction fraction → before_point (whole ++ fraction) ≡ whole
unfolding before_point
before_whole [] [] lacks zeros = refl
before_whole [] (c ∷ cs) lacks zeros = ap (λ (z : ℕ). if z == 46 then [] else z ∷ before_point cs) zeros.0
before_whole (x ∷ xs) fraction lacks zeros =
    ap (λ b. if b then [] else x ∷ before_point (xs ++ fraction)) (other (x == 46) refl)
    ∙ ap (λ (ys : List ℕ). x ∷ ys) (before_whole xs fraction (λ i within. lacks (suc i) (omega (arith, within))) zeros)
  where
    other : (b : Bool) → (x == 46) ≡ b → (x == 46) ≡ false
    other false e = e
    other true e = absurd (lacks 0 (omega arith) (eqb-true x 46 e))

pub one_factor : (text : List ℕ) (x y : ℤ) → WritesFactor text x → WritesFactor text y → x ≡ y
one_factor text x y p q =
    let same : q.whole ≡ p.whole =
    sym (before_whole q.whole q.fraction (whole_lacks q.whole y q.reads.0) q.zeros) ∙ ap before_point (sym q.text_is ∙ p.text_is) ∙ before_whole p.whole p.fraction (whole_lacks p.whole x p.reads.0) p.zeros in
    p.reads.0.number ∙ ap (λ (w : List ℕ). signed_digits_value 10 w) (sym same) ∙ sym q.reads.0.number
