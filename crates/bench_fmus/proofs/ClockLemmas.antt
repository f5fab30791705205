-- Input Clocks made inactive one by one.
use Rattle.std.proofs.Common.{◌≡◌, ℕ, ◌+◌, ◌<◌, ◌==◌, Bool, true, false, ◌||◌, List, [], ◌∷◌, ◌++◌, length, map, take, get_or, ℤ, pos, Some, None, unwrap_or, if◌then◌else◌, refl, sym, ap, ap₂, ◌∙◌, arith}
use Rattle.std.specs.List.{list_any}
use Rattle.std.proofs.lemmas.Bool.Decides.{nat_tests}
use Rattle.std.proofs.lemmas.List.{length-map, take_more}
use Rattle.std.proofs.lemmas.List.Folds.{list_any-append}
use Rattle.fmu_peer.specs.Machine.{all_written, written, zero_at}
use Rattle.value_types.specs.declared.shape.Variable.{Variable}
use Rattle.bench_fmus.specs.BuiltIn.{spread, value_of}

-- with no Clock nothing is written
none_written : (references : List ℕ) (xs : List ℤ) → length xs ≡ length references → all_written references (zero_at []) xs ≡ xs
none_written [] xs same = refl
none_written (r ∷ rs) [] same = refl
none_written (r ∷ rs) (x ∷ xs) same = ap (λ (ys : List ℤ). x ∷ ys) (none_written rs xs (omega arith))

-- the value under a reference where one more Clock is made inactive
one_value : (any : Bool) (r clock : ℕ) (x : ℤ) →
    unwrap_or (if (any || ((clock == r) || false)) then Some (pos 0) else None) x ≡ (if r == clock then pos 0 else unwrap_or (if any then Some (pos 0) else None) x)
one_value any r clock x = by any (clock == r) (r == clock) (grind (arith, nat_tests))
  where
    by : (a b c : Bool) → b ≡ c → unwrap_or (if (a || (b || false)) then Some (pos 0) else None) x ≡ (if c then pos 0 else unwrap_or (if a then Some (pos 0) else None) x)
    by true true true is = refl
    by true false false is = refl
    by false true true is = refl
    by false false false is = refl
    by true true false is = absurd (cc)
    by true false true is = absurd (cc)
    by false true false is = absurd (cc)
    by false false true is = absurd (cc)

-- one more Clock is written after the others
one_more_written : (references clocks : List ℕ) (clock : ℕ) (xs : List ℤ) →
    all_written references (zero_at (clocks ++ clock ∷ [])) xs ≡ written references (all_written references (zero_at clocks) xs) clock (pos 0)
one_more_written [] clocks clock xs = refl
one_more_written (r ∷ rs) clocks clock [] = refl
one_more_written (r ∷ rs) clocks clock (x ∷ xs) =
    ap₂ (λ (y : ℤ) (ys : List ℤ). y ∷ ys)
    (ap (λ (b : Bool). unwrap_or (if b then Some (pos 0) else None) x) (list_any-append (λ (c : ℕ). c == r) clocks (clock ∷ [])) ∙ one_value (list_any (λ (c : ℕ). c == r) clocks) r clock x)
    (one_more_written rs clocks clock xs)

-- the references of variables
abbrev pub references_of : List Variable → List ℕ
references_of variables = map (λ (v : Variable). v.reference) variables

-- the values once these Clocks are inactive
abbrev pub silenced : List Variable → List ℤ → List ℕ → List ℤ
silenced variables values clocks = all_written (references_of variables) (zero_at clocks) (spread variables values)

module _ (variables : List Variable) (values : List ℤ) where
  pub none_silenced : spread variables values ≡ silenced variables values []
  none_silenced =
      sym (none_written (references_of variables) (spread variables values)
      (length-map variables (λ (v : Variable). value_of variables values v.reference) ∙ sym (length-map variables (λ (v : Variable). v.reference))))

  -- one more Clock
  pub one_silenced : (clocks : List ℕ) (i d : ℕ) → i < length clocks →
      written (references_of variables) (silenced variables values (take i clocks)) (get_or clocks i d) (pos 0) ≡ silenced variables values (take (i + 1) clocks)
  one_silenced clocks i d within =
      sym (ap (silenced variables values) (take_more clocks i d within)
      ∙ one_more_written (references_of variables) (take i clocks) (get_or clocks i d) (spread variables values))
