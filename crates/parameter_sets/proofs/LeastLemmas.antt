-- The least element, one element after another.
use Rattle.std.proofs.Common.{◌≡◌, ◌⊎◌, ◌↔◌, ℕ, ◌+◌, ◌<◌, Bool, true, false, IsTrue, take, get_or, List, [], ◌∷◌, ◌++◌, length, Option, Some, None, refl, sym, subst, inl, inr, arith}
use Rattle.std.specs.List.{Contains}
use Rattle.std.proofs.lemmas.Bool.{both_ways, cases_order}
use Rattle.std.proofs.lemmas.List.{take_more}
use Rattle.std.proofs.lemmas.List.Elements.{Contains-append_left, Contains-push, Contains-push_cases}
use Rattle.doc_tables.specs.Violations.{FindsLeast}
use Rattle.parameter_sets.specs.Least.{least_with, lesser}

-- it is on the list, and the rule is broken there
abbrev Among : (ℕ → Type 0) → List ℕ → ℕ → Type 0
Among P xs k = Contains xs k × P k

abbrev IsLeastAmong : (ℕ → Type 0) → List ℕ → ℕ → Type 0
IsLeastAmong P xs m = Among P xs m × ((k : ℕ) → k < m → Among P xs k → ⊥)

module _ (P : ℕ → Type 0) (xs : List ℕ) (n : ℕ) where
  more : (k : ℕ) → Among P xs k → Among P (xs ++ n ∷ []) k
  more k h = (Contains-append_left xs (n ∷ []) k h.0, h.1)

  last : P n → Among P (xs ++ n ∷ []) n
  last p = (Contains-push xs n, p)

  fewer : (k : ℕ) → Among P (xs ++ n ∷ []) k → Among P xs k ⊎ (n ≡ k)
  fewer k h = at (Contains-push_cases xs n k h.0)
    where
      at : Contains xs k ⊎ (n ≡ k) → Among P xs k ⊎ (n ≡ k)
      at (inl c) = inl (c, h.1)
      at (inr e) = inr e

  least_no : (P n → ⊥) → (o : Option ℕ) → FindsLeast (Among P xs) o → FindsLeast (Among P (xs ++ n ∷ [])) o
  least_no none None h = λ k is. at k is (fewer k is)
    where
      at : (k : ℕ) → Among P (xs ++ n ∷ []) k → Among P xs k ⊎ (n ≡ k) → ⊥
      at k is (inl old) = h k old
      at k is (inr e) = none (subst P (sym e) is.1)
  least_no none (Some f) h = (more f h.0, λ k lower is. at k lower is (fewer k is))
    where
      at : (k : ℕ) → k < f → Among P (xs ++ n ∷ []) k → Among P xs k ⊎ (n ≡ k) → ⊥
      at k lower is (inl old) = h.1 k lower old
      at k lower is (inr e) = none (subst P (sym e) is.1)

  least_yes : P n → (o : Option ℕ) → FindsLeast (Among P xs) o → FindsLeast (Among P (xs ++ n ∷ [])) (Some (lesser o n))
  least_yes p None h = (last p, λ k lower is. at k lower (fewer k is))
    where
      at : (k : ℕ) → k < n → Among P xs k ⊎ (n ≡ k) → ⊥
      at k lower (inl old) = h k old
      at k lower (inr e) = absurd (omega (arith, lower, e))
  least_yes p (Some f) h = by (cases_order f n)
    where
      first : f < n + 1 → IsLeastAmong P (xs ++ n ∷ []) f
      first low = (more f h.0, λ k lower is. at k lower (fewer k is))
        where
          at : (k : ℕ) → k < f → Among P xs k ⊎ (n ≡ k) → ⊥
          at k lower (inl old) = h.1 k lower old
          at k lower (inr e) = absurd (omega (arith, lower, e, low))

      second : n < f → IsLeastAmong P (xs ++ n ∷ []) n
      second low = (last p, λ k lower is. at k lower (fewer k is))
        where
          at : (k : ℕ) → k < n → Among P xs k ⊎ (n ≡ k) → ⊥
          at k lower (inl old) = h.1 k (omega (arith, lower, low)) old
          at k lower (inr e) = absurd (omega (arith, lower, e))

      by : (f ≡ n) ⊎ ((f < n) ⊎ (n < f)) → FindsLeast (Among P (xs ++ n ∷ [])) (Some (lesser (Some f) n))
      by (inl e) = subst (IsLeastAmong P (xs ++ n ∷ [])) (omega (arith, e)) (first (omega (arith, e)))
      by (inr (inl low)) = subst (IsLeastAmong P (xs ++ n ∷ [])) (omega (arith, low)) (first (omega (arith, low)))
      by (inr (inr low)) = subst (IsLeastAmong P (xs ++ n ∷ [])) (omega (arith, low)) (second low)

  least_step : (b : Bool) → (IsTrue b ↔ P n) → (o : Option ℕ) → FindsLeast (Among P xs) o → FindsLeast (Among P (xs ++ n ∷ [])) (least_with o n b)
  least_step true is o h = least_yes (is.0 refl) o h
  least_step false is o h = least_no (λ p. both_ways false refl (is.1 p)) o h

-- an element more is looked at
pub least_more : (P : ℕ → Type 0) (xs : List ℕ) (i : ℕ) (b : Bool) (old new : Option ℕ) → i < length xs → (IsTrue b ↔ P (get_or xs i 0)) → FindsLeast (Among P (take i xs)) old → new ≡ least_with old (get_or xs i 0) b
    → FindsLeast (Among P (take (i + 1) xs)) new
least_more P xs i b old new within is h made =
    subst (λ (o : Option ℕ). FindsLeast (Among P (take (i + 1) xs)) o) (sym made)
    (subst (λ (zs : List ℕ). FindsLeast (Among P zs) (least_with old (get_or xs i 0) b)) (sym (take_more xs i 0 within)) (least_step P (take i xs) (get_or xs i 0) b is old h))
