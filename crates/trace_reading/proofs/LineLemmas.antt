-- Fields of a line: a byte that none of them has parts them in one way.
use Rattle.std.proofs.Common.{◌≡◌, arith, refl, IfSome, IfNone, IsSomeAnd, Option, Some, None, ℕ, ◌<◌, ◌^◌, List, [], ◌∷◌, ◌++◌, length, decimal, Contains, suc, sym, ◌∙◌}
use Rattle.std.specs.Str.Parse.{AllDigits}
use Rattle.std.proofs.lemmas.Fmt.{decimal_is_IsNumeral}
use Rattle.std.proofs.lemmas.Str.Parse.{digit_from_value}
use Rattle.trace_reading.specs.Lines.{Lacks}

pub lacks : (byte : ℕ) (xs : List ℕ) → (Contains xs byte → ⊥) → Lacks byte xs
lacks byte [] f = tt
lacks byte (c ∷ cs) f =
    (λ e. f (0, omega arith, e), lacks byte cs (λ h. f (suc h.0, omega (arith, h.1), h.2)))

pub lacks_digits : (byte : ℕ) (ds : List ℕ) → byte < 48 → AllDigits 10 ds → Lacks byte ds
lacks_digits byte [] low all = tt
lacks_digits byte (d ∷ ds) low all =
    (λ e. omega (arith, e, low, (digit_from_value d all.0).0), lacks_digits byte ds low all.1)

pub lacks_decimal : (byte n : ℕ) → byte < 48 → n < 2 ^ 64 → Lacks byte (decimal n)
lacks_decimal byte n low bound = lacks_digits byte (decimal n) low (decimal_is_IsNumeral n bound).0.1

pub one_cut : (byte : ℕ) (a b x y : List ℕ) → Lacks byte a → Lacks byte b → a ++ (byte ∷ x) ≡ b ++ (byte ∷ y) → (a ≡ b) × (x ≡ y)
one_cut byte [] [] x y la lb e = (refl, cc e)
one_cut byte [] (d ∷ b) x y la lb e = absurd (lb.0 (cc e))
one_cut byte (c ∷ a) [] x y la lb e = absurd (la.0 (cc e))
one_cut byte (c ∷ a) (d ∷ b) x y la lb e =
    let rest : a ++ (byte ∷ x) ≡ b ++ (byte ∷ y) = cc e in
    let same = one_cut byte a b x y la.1 lb.1 rest in
    let heads : c ≡ d = cc e in
    (cc (heads, same.0), same.1)

pub some_too : {T : Type 0} (o : Option T) (P Q : T → Type 0) → ((x : T) → P x → Q x) → IfSome o P → IfSome o Q
some_too None P Q f h = tt
some_too (Some x) P Q f h = f x h

pub none_too : {T : Type 0} (o : Option T) (P Q : Type 0) → (P → Q) → IfNone o P → IfNone o Q
none_too None P Q f h = f h
none_too (Some x) P Q f h = tt

lacks_not : (byte : ℕ) (prefix rest : List ℕ) → Lacks byte (prefix ++ (byte ∷ rest)) → ⊥
lacks_not byte [] rest h = h.0 refl
lacks_not byte (c ∷ cs) rest h = lacks_not byte cs rest h.1

pub cut_found : {T : Type 0} (o : Option T) (before after : T → List ℕ) (byte : ℕ) (bytes prefix rest : List ℕ) → IfSome o (λ p. bytes ≡ before p ++ (byte ∷ after p)) → IfSome o (λ p. Lacks byte (before p)) → IfNone o (Lacks byte bytes) → Lacks byte prefix → bytes ≡ prefix ++ (byte ∷ rest) → IsSomeAnd o (λ p. (before p ≡ prefix) × (after p ≡ rest))
cut_found None before after byte bytes prefix rest parts first none free e =
    let all : Lacks byte (prefix ++ (byte ∷ rest)) = rw (sym e) none in
    absurd (lacks_not byte prefix rest all)
cut_found (Some p) before after byte bytes prefix rest parts first none free e =
    one_cut byte (before p) prefix (after p) rest first free (sym parts ∙ e)

first_not : (ds xs ys : List ℕ) (c : ℕ) → 0 < length ds → AllDigits 10 ds → 57 < c → ds ++ xs ≡ c ∷ ys → ⊥
first_not [] xs ys c some all low e = omega (arith, some)
first_not (d ∷ ds) xs ys c some all low e =
    let same : d ≡ c = cc e in
    omega (arith, same, low, (digit_from_value d all.0).1)

pub begins_with_digit : (k c : ℕ) (xs ys : List ℕ) → k < 2 ^ 64 → 57 < c → decimal k ++ xs ≡ c ∷ ys → ⊥
begins_with_digit k c xs ys bound low e =
    let digits = (decimal_is_IsNumeral k bound).0 in
    first_not (decimal k) xs ys c digits.0 digits.1 low e
