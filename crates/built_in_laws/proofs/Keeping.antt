-- What the calls of a run leave of the values under references that no inputs have.
use Rattle.std.proofs.Common.{◌≡◌, ℕ, ◌<◌, ◌==◌, zero, suc, ℤ, pos, Bool, true, false, ◌||◌, cond, List, [], ◌∷◌, length, map, filter, get_or, Option, Some, None, unwrap_or, option_and_then, if◌then◌else◌, refl, sym, ap, ◌∙◌, subst, arith}
use Rattle.std.specs.List.{IsDistinct, list_any, slice_get}
use Rattle.std.specs.Option.{option_map, option_map_or}
use Rattle.std.specs.Prelude.{◌&&◌, is_some, nat_eq}
use Rattle.std.proofs.lemmas.Bool.{eqb-true}
use Rattle.std.proofs.lemmas.Bool.Decides.{nat_tests}
use Rattle.std.proofs.lemmas.Option.{slice_get-get_or, slice_get-map, slice_get_within}
use Rattle.value_types.specs.Shape.{is_clock, is_input, place_of, variable_at}
use Rattle.value_types.specs.declared.shape.Variable.{Variable}
use Rattle.value_types.specs.declared.shape.Shape.{Shape}
use Rattle.value_types.proofs.CallerLemmas.{find_missing, find_placed, placed_within}
use Rattle.fmu_peer.specs.Machine.{MachineState, all_written, written, zero_at}
use Rattle.fmi_calls.specs.Permission.{is_input_clock}
use Rattle.bench_fmus.specs.BuiltIn.{Behaviour, first_state, machine_of, start_of, value_of}
use Rattle.bench_fmus.specs.Laws.{none_within}
use Rattle.bench_fmus.proofs.CallerLemmas.{placed, value_of_found}
use Rattle.system_model.specs.declared.bound.BoundValue.{BoundValue}
use Rattle.system_model.proofs.CallerLemmas.{found_under, true_false}
use Rattle.run_model.specs.Initial.{with_bound}
use Rattle.run_model.proofs.CallerLemmas.{written-length, all_written-get}
use Rattle.built_in_laws.specs.Clocks.{IsNoInput, last_bound, value_set}

abbrev references_of : List Variable → List ℕ
references_of variables = map (λ (v : Variable). v.reference) variables

-- ---- where a reference is found

pub record IsPlaced (variables : List Variable) (reference k : ℕ) (v : Variable) : Type 0 where
  pub place : place_of variables reference ≡ Some k
  pub at : slice_get variables k ≡ Some v
  pub found : variable_at variables reference ≡ Some v
  pub has : v.reference ≡ reference

-- nowhere, or at the place of the first variable that has it
pub data IsFound (variables : List Variable) (reference : ℕ) : Type 0 where
  Nowhere : place_of variables reference ≡ None → variable_at variables reference ≡ None → IsFound variables reference
  At : (k : ℕ) (v : Variable) → IsPlaced variables reference k v → IsFound variables reference

pub is_found : (variables : List Variable) (reference : ℕ) → IsFound variables reference
is_found variables reference = by (place_of variables reference) refl
  where
    at : (k : ℕ) → place_of variables reference ≡ Some k → (o : Option Variable) → slice_get variables k ≡ o → IsFound variables reference
    at k there (Some v) is = At k v (record {
      place = there;
      at = is;
      found = find_placed (λ (v : Variable). v.reference == reference) variables k there ∙ is;
      has = placed variables reference k v there is;
    })
    at k there None is = absurd (none_within variables k (placed_within (λ (v : Variable). v.reference == reference) variables k there) is)

    by : (o : Option ℕ) → place_of variables reference ≡ o → IsFound variables reference
    by None none = Nowhere none (find_missing (λ (v : Variable). v.reference == reference) variables none)
    by (Some k) there = at k there (slice_get variables k) refl

-- the value at a place
abbrev value_in : List ℤ → Option ℕ → ℤ
value_in values place = unwrap_or (option_and_then (slice_get values) place) (pos 0)

-- ---- writing

unwrapped : (n o : Option ℤ) → n ≡ None → unwrap_or (option_map (λ x. unwrap_or n x) o) (pos 0) ≡ unwrap_or o (pos 0)
unwrapped None None none = refl
unwrapped None (Some x) none = refl
unwrapped (Some y) o none = absurd (cc)

-- what isn't written is kept
pub kept_written : (variables : List Variable) (reference : ℕ) (new : ℕ → Option ℤ) (xs : List ℤ) → new reference ≡ None →
    value_of variables (all_written (references_of variables) new xs) reference ≡ value_of variables xs reference
kept_written variables reference new xs none = by (is_found variables reference)
  where
    by : IsFound variables reference → value_of variables (all_written (references_of variables) new xs) reference ≡ value_of variables xs reference
    by (Nowhere nowhere missing) = ap (value_in (all_written (references_of variables) new xs)) nowhere ∙ sym (ap (value_in xs) nowhere)
    by (At k v is) =
        ap (value_in (all_written (references_of variables) new xs)) is.place
        ∙ ap (λ (o : Option ℤ). unwrap_or o (pos 0)) (all_written-get (references_of variables) new xs k v.reference (slice_get-map (λ (w : Variable). w.reference) variables k ∙ ap (option_map (λ (w : Variable). w.reference)) is.at))
        ∙ unwrapped (new v.reference) (slice_get xs k) (ap new is.has ∙ none)
        ∙ sym (ap (value_in xs) is.place)

written-get : (references : List ℕ) (xs : List ℤ) (k r reference : ℕ) (value : ℤ) → slice_get references k ≡ Some r →
    slice_get (written references xs reference value) k ≡ option_map (λ (x : ℤ). if r == reference then value else x) (slice_get xs k)
written-get [] xs k r reference value h = cc
written-get (a ∷ rs) [] k r reference value h = refl
written-get (a ∷ rs) (x ∷ xs) zero r reference value h = let same : a ≡ r = same_reference a r h in ap (λ (b : ℕ). Some (if b == reference then value else x)) same
  where
    same_reference : (a r : ℕ) → Some a ≡ Some r → a ≡ r
    same_reference a r h = cc
written-get (a ∷ rs) (x ∷ xs) (suc k) r reference value h = written-get rs xs k r reference value h

turned : (a b : ℕ) → (a == b) ≡ (b == a)
turned a b = grind (arith, nat_tests)

module _ (variables : List Variable) (reference k : ℕ) (v : Variable) (is : IsPlaced variables reference k v) where
  has_reference : slice_get (references_of variables) k ≡ Some v.reference
  has_reference = slice_get-map (λ (w : Variable). w.reference) variables k ∙ ap (option_map (λ (w : Variable). w.reference)) is.at

  -- what is written under a reference is its value, and that of no other
  set_written : (xs : List ℤ) (other : ℕ) (value : ℤ) → length xs ≡ length variables →
      value_of variables (written (references_of variables) xs other value) reference ≡ (if other == reference then value else value_of variables xs reference)
  set_written xs other value valued =
      let inside : k < length variables = slice_get_within variables k v is.at in
      let there : slice_get xs k ≡ Some (get_or xs k (pos 0)) = slice_get-get_or xs k (pos 0) (omega (arith, inside, valued)) in
      ap (value_in (written (references_of variables) xs other value)) is.place
      ∙ ap (λ (o : Option ℤ). unwrap_or o (pos 0)) (written-get (references_of variables) xs k v.reference other value has_reference ∙ ap (option_map (λ (x : ℤ). if v.reference == other then value else x)) there)
      ∙ ap (λ (r : ℕ). if r == other then value else get_or xs k (pos 0)) is.has
      ∙ ap (λ (b : Bool). if b then value else get_or xs k (pos 0)) (turned reference other)
      ∙ ap (λ (x : ℤ). if other == reference then value else x) (sym (ap (value_in xs) is.place ∙ ap (λ (o : Option ℤ). unwrap_or o (pos 0)) there))

  -- so the last that is bound is
  bound_is : (b : Behaviour) (shape : Shape) → shape.variables ≡ variables → (bs : List BoundValue) (s : MachineState) → length s.values ≡ length variables →
      value_of variables (with_bound (machine_of b shape) bs s).values reference ≡ last_bound reference bs (value_of variables s.values reference)
  bound_is b shape of [] s valued = refl
  bound_is b shape of (x ∷ bs) s valued =
      let next : List ℤ = written (references_of shape.variables) s.values x.reference x.value in
      bound_is b shape of bs (record s { values = next })
      (written-length (references_of shape.variables) s.values x.reference x.value (valued ∙ sym (length_references shape.variables ∙ ap (λ (vs : List Variable). length vs) of)) ∙ valued)
      ∙ ap (last_bound reference bs) (ap (λ (vs : List Variable). value_of variables (written (references_of vs) s.values x.reference x.value) reference) of ∙ set_written s.values x.reference x.value valued)
    where
      length_references : (vs : List Variable) → length (references_of vs) ≡ length vs
      length_references [] = refl
      length_references (w ∷ ws) = ap suc (length_references ws)

  first_is : value_of variables (first_state variables).values reference ≡ start_of v
  first_is =
      value_of_found variables (map start_of variables) reference k is.place
      ∙ ap (λ (o : Option ℤ). unwrap_or o (pos 0)) (slice_get-map start_of variables k ∙ ap (option_map start_of) is.at)

-- once its parameters were set, a built-in machine has what was set
pub configured_is : (b : Behaviour) (shape : Shape) (bound : List BoundValue) (s : MachineState) (reference : ℕ) → s.values ≡ (first_state shape.variables).values → length s.values ≡ length shape.variables →
    value_of shape.variables (with_bound (machine_of b shape) bound s).values reference ≡ value_set shape bound reference
configured_is b shape bound s reference first valued = by (is_found shape.variables reference)
  where
    by : IsFound shape.variables reference → value_of shape.variables (with_bound (machine_of b shape) bound s).values reference ≡ value_set shape bound reference
    by (Nowhere nowhere missing) =
        ap (value_in (with_bound (machine_of b shape) bound s).values) nowhere ∙ sym (ap (λ (o : Option Variable). option_map_or (λ (v : Variable). last_bound reference bound (start_of v)) o (pos 0)) missing)
    by (At k v is) =
        bound_is shape.variables reference k v is b shape refl bound s valued
        ∙ ap (last_bound reference bound) (ap (λ (xs : List ℤ). value_of shape.variables xs reference) first ∙ first_is shape.variables reference k v is)
        ∙ sym (ap (λ (o : Option Variable). option_map_or (λ (v : Variable). last_bound reference bound (start_of v)) o (pos 0)) is.found)

-- ---- Update

first_part : (a b : Bool) → (a && b) ≡ true → a ≡ true
first_part true b e = refl
first_part false b e = absurd (true_false (sym e))

-- no input Clock has the reference
none_ticks : (reference : ℕ) (vs : List Variable) → ((k : ℕ) (v : Variable) → slice_get vs k ≡ Some v → is_input_clock v ≡ true → (v.reference == reference) ≡ false) →
    list_any (λ (x : ℕ). x == reference) (references_of (filter is_input_clock vs)) ≡ false
none_ticks reference [] each = refl
none_ticks reference (v ∷ vs) each = by (is_input_clock v) refl (none_ticks reference vs (λ k w at. each (suc k) w at))
  where
    by : (b : Bool) → is_input_clock v ≡ b → list_any (λ (x : ℕ). x == reference) (references_of (filter is_input_clock vs)) ≡ false →
        list_any (λ (x : ℕ). x == reference) (references_of (cond b (v ∷ filter is_input_clock vs) (filter is_input_clock vs))) ≡ false
    by true ticks rest = ap (λ (b : Bool). b || list_any (λ (x : ℕ). x == reference) (references_of (filter is_input_clock vs))) (each 0 v refl ticks) ∙ rest
    by false other rest = rest

-- the input Clocks are made inactive, and what no input has is kept
pub kept_unticked : (shape : Shape) → IsDistinct nat_eq (references_of shape.variables) → (reference : ℕ) → IsNoInput shape reference →
    zero_at (references_of (filter is_input_clock shape.variables)) reference ≡ None
kept_unticked shape distinct reference no_input = ap (λ (b : Bool). if b then Some (pos 0) else None) (none_ticks reference shape.variables each)
  where
    each : (k : ℕ) (v : Variable) → slice_get shape.variables k ≡ Some v → is_input_clock v ≡ true → (v.reference == reference) ≡ false
    each k v at ticks = by (v.reference == reference) refl
      where
        by : (b : Bool) → (v.reference == reference) ≡ b → b ≡ false
        by false other = refl
        by true same =
            let found : variable_at shape.variables v.reference ≡ Some v = found_under (λ (w : Variable). w.reference) shape.variables k v distinct at in
            let here : variable_at shape.variables reference ≡ Some v = subst (λ (r : ℕ). variable_at shape.variables r ≡ Some v) (eqb-true v.reference reference same) found in
            let input : is_input v.causality ≡ true = first_part (is_input v.causality) (is_some v.kind) (first_part (is_input v.causality && is_some v.kind) (is_clock v) ticks) in
            absurd (true_false (sym input ∙ sym (ap (λ (o : Option Variable). option_map_or (λ (w : Variable). is_input w.causality) o false) here) ∙ no_input))
