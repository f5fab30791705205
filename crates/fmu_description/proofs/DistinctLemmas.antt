-- The value references of a sound description are distinct.
use Rattle.std.proofs.Common.{◌≡◌, ℕ, zero, suc, ◌+◌, ◌<◌, ◌≤◌, Bool, true, false, cond, nat_eq, List, [], ◌∷◌, length, map, Some, refl, ap, ◌∙◌, arith}
use Rattle.std.specs.Prelude.{filter}
use Rattle.std.specs.List.{AllZip, AllByRecursion, IsDistinct, range_with_len}
use Rattle.std.proofs.lemmas.Bool.Decides.{nat_tests}
use Rattle.std.proofs.lemmas.Map.Keys.{IsDistinct-cons}
use Rattle.value_types.specs.declared.shape.Variable.{Variable}
use Rattle.doc_grammar.specs.Nodes.{Node}
use Rattle.doc_tree.specs.declared.rule.DescriptionRule.TheVariants as r
use Rattle.doc_tables.specs.Elements.{key_if}
use Rattle.fmu_description.specs.Elements.{is_variable, reference_of, variable_key}
use Rattle.fmu_description.specs.Rules.{IsSoundDescription}
use Rattle.fmu_description.specs.Description.{IsVariable, variables_in}

abbrev reference_in : Variable → ℕ
reference_in x = x.reference

-- the variable of an element at or after a place
record IsAfter (t : List Node) (i : ℕ) (x : Variable) : Type 0 where
  place : ℕ
  after : i ≤ place
  key : variable_key t place ≡ Some x.reference

key_of : (t : List Node) (i : ℕ) (x : Variable) → is_variable t i ≡ true → reference_of t i ≡ Some x.reference → variable_key t i ≡ Some x.reference
key_of t i x is ref = ap (λ (b : Bool). key_if b (reference_of t i)) is ∙ ref

raise : (t : List Node) (i : ℕ) (x : Variable) → IsAfter t (i + 1) x → IsAfter t i x
raise t i x b = record { place = b.place; after = below i b.place b.after; key = b.key }
  where
    below : (i p : ℕ) → i + 1 ≤ p → i ≤ p
    below i p h = omega arith

raise_all : (t : List Node) (i : ℕ) (xs : List Variable) → AllByRecursion (IsAfter t (i + 1)) xs → AllByRecursion (IsAfter t i) xs
raise_all t i [] h = h
raise_all t i (x ∷ xs) h = (raise t i x h.0, raise_all t i xs h.1)

places : (t : List Node) (i n : ℕ) (xs : List Variable) → AllZip (IsVariable t) (filter (is_variable t) (range_with_len i n)) xs → AllByRecursion (IsAfter t i) xs
places t i zero [] h = h
places t i zero (x ∷ xs) h = absurd h
places t i (suc n) xs h = at (λ ys k. places t (i + 1) n ys k) (is_variable t i) refl xs h
  where
    at : ((ys : List Variable) → AllZip (IsVariable t) (filter (is_variable t) (range_with_len (i + 1) n)) ys → AllByRecursion (IsAfter t (i + 1)) ys) → (b : Bool) → is_variable t i ≡ b → (xs : List Variable) → AllZip (IsVariable t) (cond b (i ∷ filter (is_variable t) (range_with_len (i + 1) n)) (filter (is_variable t) (range_with_len (i + 1) n))) xs → AllByRecursion (IsAfter t i) xs
    at rest true is [] h = absurd h
    at rest true is (x ∷ xs) h = (record { place = i; after = omega arith; key = key_of t i x is h.0.reference }, raise_all t i xs (rest xs h.1))
    at rest false is xs h = raise_all t i xs (rest xs h)

module _ (t : List Node) (per_second : ℕ) (sound : IsSoundDescription t per_second) where
  apart : (i : ℕ) (x y : Variable) → variable_key t i ≡ Some x.reference → IsAfter t (i + 1) y → nat_eq x.reference y.reference ≡ false
  apart i x y key b = tested (nat_eq x.reference y.reference) refl
    where
      before : (i p : ℕ) → i + 1 ≤ p → i < p
      before i p h = omega arith

      same : nat_eq x.reference y.reference ≡ true → x.reference ≡ y.reference
      same e = grind (arith, nat_tests)

      tested : (c : Bool) → nat_eq x.reference y.reference ≡ c → c ≡ false
      tested false e = refl
      tested true e = absurd (sound r.ReferenceTwice b.place (y.reference, b.key, (i, before i b.place b.after, key ∙ ap (λ (n : ℕ). Some n) (same e))))

  apart_all : (i : ℕ) (x : Variable) (ys : List Variable) → variable_key t i ≡ Some x.reference → AllByRecursion (IsAfter t (i + 1)) ys → AllByRecursion (λ n. nat_eq x.reference n ≡ false) (map reference_in ys)
  apart_all i x [] key h = h
  apart_all i x (y ∷ ys) key h = (apart i x y key h.0, apart_all i x ys key h.1)

  distinct_from : (i n : ℕ) (xs : List Variable) → AllZip (IsVariable t) (filter (is_variable t) (range_with_len i n)) xs → IsDistinct nat_eq (map reference_in xs)
  unfolding IsDistinct
  distinct_from i zero [] h = h
  distinct_from i zero (x ∷ xs) h = absurd h
  distinct_from i (suc n) xs h = at (λ ys k. distinct_from (i + 1) n ys k) (is_variable t i) refl xs h
    where
      at : ((ys : List Variable) → AllZip (IsVariable t) (filter (is_variable t) (range_with_len (i + 1) n)) ys → IsDistinct nat_eq (map reference_in ys)) → (b : Bool) → is_variable t i ≡ b → (xs : List Variable) → AllZip (IsVariable t) (cond b (i ∷ filter (is_variable t) (range_with_len (i + 1) n)) (filter (is_variable t) (range_with_len (i + 1) n))) xs → IsDistinct nat_eq (map reference_in xs)
      at rest true is [] h = absurd h
      at rest true is (x ∷ xs) h =
          IsDistinct-cons nat_eq x.reference (map reference_in xs) (apart_all i x xs (key_of t i x is h.0.reference) (places t (i + 1) n xs h.1)) (rest xs h.1)
      at rest false is xs h = rest xs h

  pub references_distinct : (xs : List Variable) → AllZip (IsVariable t) (variables_in t) xs → IsDistinct nat_eq (map (λ (x : Variable). x.reference) xs)
  references_distinct xs h = distinct_from 0 (length t) xs h
