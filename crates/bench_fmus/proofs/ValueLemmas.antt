-- Values under references, kept at the place of the first variable that has each.
use Rattle.std.proofs.Common.{◌≡◌, ℕ, zero, suc, ◌+◌, ◌<◌, ◌≤◌, ◌==◌, Bool, true, false, not, cond, List, [], ◌∷◌, length, map, set, Option, Some, None, ℤ, pos, nat_lt, position, unwrap_or, if◌then◌else◌, option_and_then, refl, sym, ap, ◌∙◌, arith}
use Rattle.std.specs.List.{position_or_len, slice_get}
use Rattle.std.specs.Option.{option_map}
use Rattle.std.proofs.lemmas.Bool.{eqb-true}
use Rattle.std.proofs.lemmas.Bool.Decides.{nat_tests}
use Rattle.std.proofs.lemmas.List.Quantifiers.{position-Some}
use Rattle.std.proofs.lemmas.List.Sums.{prefix_len-le-length}
use Rattle.std.proofs.lemmas.Option.{slice_get-map, get_or_from_slice_get, same_Some}
use Rattle.value_types.specs.Shape.{place_of}
use Rattle.value_types.specs.declared.shape.Variable.{Variable}
use Rattle.value_types.proofs.CallerLemmas.{placed_within}
use Rattle.fmu_peer.specs.Machine.{written}
use Rattle.bench_fmus.specs.BuiltIn.{spread, value_of}
use Rattle.bench_fmus.specs.Laws.{none_within}

-- ---- places

missing : (b : Bool) (n : ℕ) → ◌≡◌ {A = Option ℕ} (cond b (Some n) None) None → b ≡ false
missing true n e = cc
missing false n e = refl

not_first : (b : Bool) (n m : ℕ) → cond (not b) (1 + n) 0 ≡ suc m → (b ≡ false) × (n ≡ m)
not_first true n m e = absurd (omega arith)
not_first false n m e = (refl, omega arith)

none_passes : {X : Type 0} (p : X → Bool) (xs : List X) → position_or_len p xs ≡ length xs → (k : ℕ) (y : X) → slice_get xs k ≡ Some y → p y ≡ false
none_passes p [] len k y there = cc
none_passes p (x ∷ xs) len zero y there = ap p (sym (same_Some x y there)) ∙ (not_first (p x) (position_or_len p xs) (length xs) len).0
none_passes p (x ∷ xs) len (suc k) y there = none_passes p xs (not_first (p x) (position_or_len p xs) (length xs) len).1 k y there

-- where no place is found, no element passes
absent : {X : Type 0} (p : X → Bool) (xs : List X) → position p xs ≡ None → (k : ℕ) (y : X) → slice_get xs k ≡ Some y → p y ≡ false
absent p xs none =
    let past : nat_lt (position_or_len p xs) (length xs) ≡ false = missing _ _ none in
    let most : position_or_len p xs ≤ length xs = prefix_len-le-length (λ x. not (p x)) xs in
    none_passes p xs (grind (arith, nat_tests))

-- the variable at the first place of a reference has it
pub placed : (variables : List Variable) (reference k : ℕ) (v : Variable) → place_of variables reference ≡ Some k → slice_get variables k ≡ Some v → v.reference ≡ reference
placed variables reference k v there is =
    let at : (v.reference == reference) ≡ true =
    ap (λ (w : Variable). w.reference == reference) (sym (get_or_from_slice_get variables k v v is)) ∙ (position-Some (λ (w : Variable). w.reference == reference) variables k v there).1 in
    eqb-true v.reference reference at

-- ---- reading

-- the value at a place
abbrev value_in : List ℤ → Option ℕ → ℤ
value_in values place = unwrap_or (option_and_then (slice_get values) place) (pos 0)

spread_at : (variables : List Variable) (values : List ℤ) (reference : ℕ) (o : Option ℕ) → place_of variables reference ≡ o → value_in (spread variables values) o ≡ value_in values o
spread_at variables values reference None none = refl
spread_at variables values reference (Some k) there = at (slice_get variables k) refl
  where
    at : (o : Option Variable) → slice_get variables k ≡ o → value_in (spread variables values) (Some k) ≡ value_in values (Some k)
    at (Some v) is =
        ap (λ (x : Option ℤ). unwrap_or x (pos 0)) (slice_get-map (λ (w : Variable). value_of variables values w.reference) variables k ∙ ap (option_map (λ (w : Variable). value_of variables values w.reference)) is)
        ∙ ap (value_of variables values) (placed variables reference k v there is)
        ∙ ap (value_in values) there
    at None is =
        let within : k < length variables = placed_within (λ (w : Variable). w.reference == reference) variables k there in
        absurd (none_within variables k within is)

-- what the variables have under a reference, where the first variable with it is known
pub value_of_found : (variables : List Variable) (values : List ℤ) (reference place : ℕ) → place_of variables reference ≡ Some place →
    value_of variables (spread variables values) reference ≡ unwrap_or (slice_get values place) (pos 0)
value_of_found variables values reference place found = spread_at variables values reference (place_of variables reference) refl ∙ ap (value_in values) found

-- where no variable has it
pub value_of_missing : (variables : List Variable) (values : List ℤ) (reference : ℕ) → place_of variables reference ≡ None → value_of variables (spread variables values) reference ≡ pos 0
value_of_missing variables values reference missing = ap (value_in (spread variables values)) missing

-- ---- writing

-- a value is written where what the variables have changes under that reference alone
written_map : (vs : List Variable) (f g : Variable → ℤ) (reference : ℕ) (value : ℤ) →
    ((k : ℕ) (v : Variable) → slice_get vs k ≡ Some v → g v ≡ (if v.reference == reference then value else f v)) →
    map g vs ≡ written (map (λ (v : Variable). v.reference) vs) (map f vs) reference value
written_map [] f g reference value each = refl
written_map (v ∷ vs) f g reference value each =
    ap (λ (x : ℤ). x ∷ map g vs) (each 0 v refl) ∙ ap (λ (xs : List ℤ). (if v.reference == reference then value else f v) ∷ xs) (written_map vs f g reference value (λ k. each (suc k)))

pub set_here : (values : List ℤ) (k : ℕ) (value : ℤ) → k < length values → slice_get (set values k value) k ≡ Some value
set_here [] k value within = absurd (omega arith)
set_here (x ∷ xs) zero value within = refl
set_here (x ∷ xs) (suc k) value within = set_here xs k value (omega arith)

pub set_there : (values : List ℤ) (k j : ℕ) (value : ℤ) → (k ≡ j → ⊥) → slice_get (set values k value) j ≡ slice_get values j
set_there [] k j value apart = refl
set_there (x ∷ xs) zero zero value apart = absurd (apart refl)
set_there (x ∷ xs) zero (suc j) value apart = refl
set_there (x ∷ xs) (suc k) zero value apart = refl
set_there (x ∷ xs) (suc k) (suc j) value apart = set_there xs k j value (λ same. apart (ap suc same))

if_true : (b : Bool) (x y z : ℤ) → b ≡ true → z ≡ x → z ≡ (if b then x else y)
if_true true x y z e is = is
if_true false x y z e is = absurd (cc)

if_false : (b : Bool) (x y z : ℤ) → b ≡ false → z ≡ y → z ≡ (if b then x else y)
if_false true x y z e is = absurd (cc)
if_false false x y z e is = is

module _ (variables : List Variable) (values : List ℤ) (reference : ℕ) (value : ℤ) where
  -- the value at the first place of the reference is set
  pub spread_set : (k : ℕ) → k < length values → place_of variables reference ≡ Some k →
      spread variables (set values k value) ≡ written (map (λ (v : Variable). v.reference) variables) (spread variables values) reference value
  spread_set k within there =
      written_map variables (λ (v : Variable). value_of variables values v.reference) (λ (v : Variable). value_of variables (set values k value) v.reference) reference value
      (λ i v is. elim (v.reference == reference) as (λ b. (v.reference == reference) ≡ b → value_of variables (set values k value) v.reference ≡ (if v.reference == reference then value else value_of variables values v.reference)) [
        | true ↦ λ same. if_true _ _ _ _ same (ap (value_of variables (set values k value)) (eqb-true v.reference reference same) ∙ ap (value_in (set values k value)) there ∙ ap (λ (o : Option ℤ). unwrap_or o (pos 0)) (set_here values k value within))
        | false ↦ λ other. if_false _ _ _ _ other (elsewhere v (place_of variables v.reference) refl other)
      ] refl)
    where
      -- the first place of another reference is another
      apart : (v : Variable) (j : ℕ) → place_of variables v.reference ≡ Some j → (v.reference == reference) ≡ false → k ≡ j → ⊥
      apart v j at other same =
          let here : (v.reference == reference) ≡ true = shared v (slice_get variables j) refl at (there ∙ ap Some same) in
          cc
        where
          shared : (v : Variable) (o : Option Variable) → slice_get variables j ≡ o → place_of variables v.reference ≡ Some j → place_of variables reference ≡ Some j → (v.reference == reference) ≡ true
          shared v (Some w) is first second =
              let same_reference : v.reference ≡ reference = sym (placed variables v.reference j w first is) ∙ placed variables reference j w second is in
              grind (arith, nat_tests)
          shared v None is first second = absurd (none_within variables j (placed_within (λ (w : Variable). w.reference == reference) variables j second) is)

      elsewhere : (v : Variable) (o : Option ℕ) → place_of variables v.reference ≡ o → (v.reference == reference) ≡ false → value_of variables (set values k value) v.reference ≡ value_of variables values v.reference
      elsewhere v None none other = ap (value_in (set values k value)) none ∙ sym (ap (value_in values) none)
      elsewhere v (Some j) at other =
          ap (value_in (set values k value)) at ∙ ap (λ (o : Option ℤ). unwrap_or o (pos 0)) (set_there values k j value (λ same. apart v j at other same)) ∙ sym (ap (value_in values) at)

  -- no variable has the reference
  pub spread_unset : place_of variables reference ≡ None →
      spread variables values ≡ written (map (λ (v : Variable). v.reference) variables) (spread variables values) reference value
  spread_unset none =
      written_map variables (λ (v : Variable). value_of variables values v.reference) (λ (v : Variable). value_of variables values v.reference) reference value
      (λ i v is. if_false _ _ _ _ (absent (λ (w : Variable). w.reference == reference) variables none i v is) refl)
