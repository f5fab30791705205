-- The states of a built-in FMU along a run are read back from their bytes.
use Rattle.std.proofs.Common.{◌≡◌, ℕ, zero, suc, ◌<◌, ◌≤◌, ◌^◌, ◌==◌, ℤ, pos, Bool, true, false, ◌&&◌, List, [], ◌∷◌, length, map, filter, Option, Some, None, nat_lt, unwrap_or, if◌then◌else◌, refl, sym, ap, ap₂, ◌∙◌, subst, arith}
use Rattle.std.specs.List.{AllZip, IsDistinct, list_any, slice_get}
use Rattle.std.specs.Option.{option_and_then, option_map}
use Rattle.std.specs.Ordering.{int_eq}
use Rattle.std.specs.Prelude.{All, IfSome, IsSomeAnd, nat_eq, position, slice_index_or}
use Rattle.std.proofs.lemmas.Bool.Decides.{nat_tests}
use Rattle.std.proofs.lemmas.Int.{ints}
use Rattle.std.proofs.lemmas.List.{length-map}
use Rattle.std.proofs.lemmas.List.Elements.{All-head, All-tail}
use Rattle.std.proofs.lemmas.Map.Keys.{apart_from_distinct}
use Rattle.std.proofs.lemmas.Option.{get_or_from_slice_get, same_Some, slice_get-get_or, slice_get-map, slice_get_within}
use Rattle.value_types.specs.Shape.{variable_at}
use Rattle.value_types.specs.declared.shape.Variable.{Variable}
use Rattle.value_types.specs.declared.shape.Shape.{Shape}
use Rattle.value_types.specs.declared.values.PortType.{PortType}
use Rattle.value_types.specs.declared.values.PortType.TheVariants.{Boolean, Clock, Int64, UInt64}
use Rattle.value_types.specs.Values.{Fits}
use Rattle.fmi_calls.specs.declared.call.Call.{Call}
use Rattle.fmi_calls.specs.declared.call.Call.TheVariants as C
use Rattle.fmi_calls.specs.Permission.{is_input_clock}
use Rattle.fmu_peer.specs.Machine.{Machine, MachineState, after, kept, mark_after, zero_at}
use Rattle.fmu_peer.specs.Mode.{instantiate_of}
use Rattle.bench_fmus.specs.declared.model.Model.{Model}
use Rattle.bench_fmus.specs.BuiltIn.{at_first, machine_of, numbers_in, spread, start_of, value_of}
use Rattle.bench_fmus.specs.Laws.{StatesReadBack}
use Rattle.bench_fmus.specs.Models.{behaviour_of}
use Rattle.bench_fmus.specs.Packed.{CanStand, IsKeptAs}
use Rattle.system_model.specs.Bounds.{AreParameterValues, BindsParameters, IsParameterValue}
use Rattle.system_model.specs.Ports.{is_clock_role}
use Rattle.system_model.specs.Shapes.{HasFittingStart, IsSoundShape}
use Rattle.system_model.specs.Sound.{IsSound}
use Rattle.system_model.specs.Values.{value}
use Rattle.system_model.specs.declared.bound.BoundValue.{BoundValue}
use Rattle.system_model.specs.declared.system.Component.{Component}
use Rattle.system_model.specs.declared.system.Port.{Port}
use Rattle.system_model.specs.declared.system.Role.{Role}
use Rattle.system_model.specs.declared.system.Role.TheVariants.{Input, Output, ClockInput, ClockOutput, TimeClock}
use Rattle.system_model.proofs.CallerLemmas.{Placed, all_at, found_under, kind_of_clock, place_of as place_in}
use Rattle.run_model.specs.Initial.{bound_values, enter_initialization, with_bound}
use Rattle.run_model.specs.Inputs.{is_under, state_with, under, written_at_port, written_by}
use Rattle.run_model.specs.Machines.{AreFitting}
use Rattle.run_model.specs.Run.{Run}
use Rattle.run_model.proofs.CallerLemmas.{Found, found_at}
use Rattle.run_rest.specs.Lasting.{LastsAlong}
use Rattle.run_rest.specs.Laws.{LastingReadsBack}
use Rattle.built_in_laws.specs.BuiltInBytes.{BuiltInsReadBack}
use Rattle.built_in_laws.proofs.Keeping.{At, IsFound, Nowhere, is_found}
use Rattle.value_types.proofs.CallerLemmas.{fits_of, fitting}
use Rattle.built_in_laws.proofs.Ranges.{AreRanged, IsInTime, all_kept, all_kept_length, both, is_kept, is_out, join, kept_all_written, kept_at, kept_written, ranged, ranges, ranges_after, ranges_of, zero_fits}

-- ---- the variables of a sound shape

equal_itself : (x : ℤ) → int_eq x x ≡ true
equal_itself x = grind (arith, ints)

same_int : (x y : ℤ) → int_eq x y ≡ true → x ≡ y
same_int x y is = grind (arith, ints)

kept_fit : (kind : PortType) (o : Option PortType) (start x : ℤ) → o ≡ Some kind → Fits kind x → is_kept o start x ≡ true
kept_fit kind o start x is fits = ap (λ (q : Option PortType). is_kept q start x) is ∙ fitting kind x fits

module _ (shape : Shape) (sound : IsSoundShape shape) where
  distinct : IsDistinct nat_eq (map (λ (v : Variable). v.reference) shape.variables)
  distinct = sound.variables.distinct

  -- two variables with one reference stand at one place
  one_place : (j k : ℕ) (w v : Variable) → slice_get shape.variables j ≡ Some w → slice_get shape.variables k ≡ Some v → w.reference ≡ v.reference → w ≡ v
  one_place j k w v at there same =
      same_Some w v (sym (found_under (λ (u : Variable). u.reference) shape.variables j w distinct at) ∙ ap (variable_at shape.variables) same ∙ found_under (λ (u : Variable). u.reference) shape.variables k v distinct there)

  -- the start of a variable is of its type
  start_kept : (k : ℕ) (v : Variable) → slice_get shape.variables k ≡ Some v → is_kept v.kind (start_of v) (start_of v) ≡ true
  start_kept k v at = by v.kind v.start (all_at HasFittingStart shape.variables k v sound.variables.starts at)
    where
      by : (kind : Option PortType) (start : Option ℤ) → IfSome start (λ x. IsSomeAnd kind (λ (t : PortType). Fits t x)) → is_kept kind (unwrap_or start (pos 0)) (unwrap_or start (pos 0)) ≡ true
      by None start fits = equal_itself (unwrap_or start (pos 0))
      by (Some kind) None fits = fitting kind (pos 0) (zero_fits kind)
      by (Some kind) (Some x) fits = fitting kind x fits

  -- 0 is of each type, and the start of a variable that has none
  zero_kept : (k : ℕ) (v : Variable) → slice_get shape.variables k ≡ Some v → is_kept v.kind (start_of v) (pos 0) ≡ true
  zero_kept k v at = by v.kind v.start (all_at HasFittingStart shape.variables k v sound.variables.starts at)
    where
      by : (kind : Option PortType) (start : Option ℤ) → IfSome start (λ x. IsSomeAnd kind (λ (t : PortType). Fits t x)) → is_kept kind (unwrap_or start (pos 0)) (pos 0) ≡ true
      by None None fits = refl
      by None (Some x) fits = absurd fits
      by (Some kind) start fits = fitting kind (pos 0) (zero_fits kind)

  first_value : (k : ℕ) (v : Variable) → slice_get shape.variables k ≡ Some v → value_of shape.variables (map start_of shape.variables) v.reference ≡ start_of v
  first_value k v at = by (is_found shape.variables v.reference)
    where
      by : IsFound shape.variables v.reference → value_of shape.variables (map start_of shape.variables) v.reference ≡ start_of v
      by (Nowhere nowhere missing) = absurd (none_some v (sym missing ∙ found_under (λ (u : Variable). u.reference) shape.variables k v distinct at))
        where
          none_some : (w : Variable) → ◌≡◌ {A = Option Variable} None (Some w) → ⊥
          none_some w e = cc
      by (At j w is) =
          ap (λ (o : Option ℕ). unwrap_or (option_and_then (slice_get (map start_of shape.variables)) o) (pos 0)) is.place
          ∙ ap (λ (o : Option ℤ). unwrap_or o (pos 0)) (slice_get-map start_of shape.variables j ∙ ap (option_map start_of) is.at)
          ∙ ap start_of (one_place j k w v is.at at is.has)

  kept_map : (f : Variable → ℤ) (vs : List Variable) → ((k : ℕ) (v : Variable) → slice_get vs k ≡ Some v → is_kept v.kind (start_of v) (f v) ≡ true) → all_kept vs (map f vs) ≡ true
  kept_map f [] each = refl
  kept_map f (v ∷ vs) each = join _ _ (each 0 v refl) (kept_map f vs (λ k. each (suc k)))

  first_kept : all_kept shape.variables (spread shape.variables (map start_of shape.variables)) ≡ true
  first_kept = kept_map (λ (v : Variable). value_of shape.variables (map start_of shape.variables) v.reference) shape.variables
      (λ k v at. ap (is_kept v.kind (start_of v)) (first_value k v at) ∙ start_kept k v at)

-- ---- tests

abbrev is_early : Shape → MachineState → Bool
is_early shape s = ranges s.numbers && all_kept shape.variables s.values

abbrev is_late : Shape → MachineState → Bool
is_late shape s = is_out s.numbers && is_early shape s

module _ (shape : Shape) (sound : IsSoundShape shape) where
  place_same : (j k : ℕ) (w v : Variable) → slice_get shape.variables j ≡ Some w → slice_get shape.variables k ≡ Some v → w.reference ≡ v.reference → j ≡ k
  place_same j k w v at there same = by (nat_lt j k) refl (nat_lt k j) refl
    where
      here : (i : ℕ) (u : Variable) → slice_get shape.variables i ≡ Some u → slice_index_or (map (λ (x : Variable). x.reference) shape.variables) i 0 ≡ u.reference
      here i u is =
          get_or_from_slice_get (map (λ (x : Variable). x.reference) shape.variables) i u.reference 0
          (slice_get-map (λ (x : Variable). x.reference) shape.variables i ∙ ap (option_map (λ (x : Variable). x.reference)) is)

      len : length (map (λ (x : Variable). x.reference) shape.variables) ≡ length shape.variables
      len = length-map shape.variables (λ (x : Variable). x.reference)

      apart : (a b : ℕ) (x y : Variable) → slice_get shape.variables a ≡ Some x → slice_get shape.variables b ≡ Some y → x.reference ≡ y.reference → a < b → ⊥
      apart a b x y is_x is_y one less =
          let within : b < length shape.variables = slice_get_within shape.variables b y is_y in
          let other : nat_eq (slice_index_or (map (λ (u : Variable). u.reference) shape.variables) a 0) (slice_index_or (map (λ (u : Variable). u.reference) shape.variables) b 0) ≡ false =
          apart_from_distinct nat_eq (map (λ (u : Variable). u.reference) shape.variables) a b 0 sound.variables.distinct less (omega (arith, len)) in
          let is : nat_eq x.reference y.reference ≡ false = ap₂ nat_eq (sym (here a x is_x)) (sym (here b y is_y)) ∙ other in
          let equal : nat_eq x.reference y.reference ≡ true = grind (arith, nat_tests) in
          cc

      by : (p : Bool) → nat_lt j k ≡ p → (q : Bool) → nat_lt k j ≡ q → j ≡ k
      by true less q other = absurd (apart j k w v at there same (grind (arith, nat_tests)))
      by false not_less true less = absurd (apart k j v w there at (sym same) (grind (arith, nat_tests)))
      by false not_less false not_more = grind (arith, nat_tests)

  value_here : (values : List ℤ) (k : ℕ) (v : Variable) (x : ℤ) → slice_get shape.variables k ≡ Some v → slice_get values k ≡ Some x → value_of shape.variables values v.reference ≡ x
  value_here values k v x at there = by (is_found shape.variables v.reference)
    where
      by : IsFound shape.variables v.reference → value_of shape.variables values v.reference ≡ x
      by (Nowhere nowhere missing) = absurd (none_some v (sym missing ∙ found_under (λ (u : Variable). u.reference) shape.variables k v sound.variables.distinct at))
        where
          none_some : (w : Variable) → ◌≡◌ {A = Option Variable} None (Some w) → ⊥
          none_some w e = cc
      by (At j w is) =
          ap (λ (o : Option ℕ). unwrap_or (option_and_then (slice_get values) o) (pos 0)) is.place
          ∙ ap (λ (i : ℕ). unwrap_or (slice_get values i) (pos 0)) (place_same j k w v is.at at is.has)
          ∙ ap (λ (o : Option ℤ). unwrap_or o (pos 0)) there

  value_at : (values : List ℤ) (k : ℕ) (v : Variable) → length values ≡ length shape.variables → slice_get shape.variables k ≡ Some v → slice_get values k ≡ Some (value_of shape.variables values v.reference)
  value_at values k v len at =
      let within : k < length shape.variables = slice_get_within shape.variables k v at in
      let there : slice_get values k ≡ Some (slice_index_or values k (pos 0)) = slice_get-get_or values k (pos 0) (omega (arith, within, len)) in
      there ∙ ap Some (sym (value_here values k v (slice_index_or values k (pos 0)) at there))

  map_is : (f : Variable → ℤ) (vs : List Variable) (xs : List ℤ) → length xs ≡ length vs → ((k : ℕ) (v : Variable) (x : ℤ) → slice_get vs k ≡ Some v → slice_get xs k ≡ Some x → f v ≡ x) → xs ≡ map f vs
  map_is f [] [] len each = refl
  map_is f [] (x ∷ xs) len each = absurd (omega (arith, len))
  map_is f (v ∷ vs) [] len each = absurd (omega (arith, len))
  map_is f (v ∷ vs) (x ∷ xs) len each =
      ap₂ (λ (y : ℤ) (ys : List ℤ). y ∷ ys) (sym (each 0 v x refl refl)) (map_is f vs xs (omega (arith, len)) (λ k. each (suc k)))

  kept_as : (kind : Option PortType) (start x : ℤ) → is_kept kind start x ≡ true → IsKeptAs kind start x
  kept_as None start x is = same_int x start is
  kept_as (Some kind) start x is = fits_of kind x is

  -- what passes the test is read back
  can_stand : (s : MachineState) → is_late shape s ≡ true → CanStand shape.variables (kept s)
  can_stand s late =
      let one = both (is_out s.numbers) (is_early shape s) late in
      let two = both (ranges s.numbers) (all_kept shape.variables s.values) one.1 in
      let numbers : AreRanged s.numbers = ranged s.numbers two.0 in
      let len : length s.values ≡ length shape.variables = all_kept_length shape.variables s.values two.1 in
      record {
        own = numbers_in s.numbers;
        numbers = numbers.is;
        outside = same_int (numbers_in s.numbers).mark (pos 0) (sym (ap is_out numbers.is) ∙ one.0);
        held = numbers.in_ranges.held;
        count = numbers.in_ranges.count;
        point = numbers.in_ranges.point;
        fired = numbers.in_ranges.fired;
        shared = map_is (λ (v : Variable). value_of shape.variables s.values v.reference) shape.variables s.values len (value_here s.values);
        values = λ k v at placed.
            kept_as v.kind (start_of v) (value_of shape.variables s.values v.reference)
            (kept_at shape.variables s.values k v (value_of shape.variables s.values v.reference) two.1 at (value_at s.values k v len at));
      }

-- ---- along a run

zip_at : {A B : Type 0} (R : A → B → Type 0) (xs : List A) (ys : List B) (i : ℕ) (x : A) (d : B) → AllZip R xs ys → slice_get xs i ≡ Some x → R x (slice_index_or ys i d)
zip_at R [] ys i x d all at = absurd (none_some x at)
  where
    none_some : {A : Type 0} (a : A) → ◌≡◌ {A = Option A} None (Some a) → ⊥
    none_some a e = cc
zip_at R (y ∷ xs) [] i x d all at = absurd all
zip_at R (y ∷ xs) (z ∷ ys) zero x d all at = subst (λ a. R a z) (same_Some y x at) all.0
zip_at R (y ∷ xs) (z ∷ ys) (suc i) x d all at = zip_at R xs ys i x d all.1 at

zero_is : (clocks : List ℕ) (reference : ℕ) (y : ℤ) → zero_at clocks reference ≡ Some y → pos 0 ≡ y
zero_is clocks reference y = by (list_any (λ (x : ℕ). x == reference) clocks)
  where
    by : (b : Bool) → (if b then Some (pos 0) else None) ≡ Some y → pos 0 ≡ y
    by true is = same_Some (pos 0) y is
    by false is = absurd (cc)

module _ (r : Run) (sound : IsSound r.system) (binds : BindsParameters r.system r.bound) (ordered : r.plan.start ≤ r.plan.stop) (small : r.plan.stop < 2 ^ 64)
    (i : ℕ) (c : Component) (model : Model) (of_c : slice_get r.system.components i ≡ Some c) where
  abbrev M : Machine
  M = machine_of (behaviour_of model) c.shape

  shape_sound : IsSoundShape c.shape
  shape_sound = all_at (λ (x : Component). IsSoundShape x.shape) r.system.components i c sound.components.shapes of_c

  -- ---- values that are written

  one_fits : (kind : PortType) → kind ≡ Clock → Fits kind (pos 1)
  one_fits kind is = subst (λ (k : PortType). Fits k (pos 1)) (sym is) (omega (arith, ints), omega (arith, ints))

  present_fits : (kind : PortType) (b : Bool) (o : Option ℤ) (y : ℤ) → IfSome o (Fits kind) → (if b then o else None) ≡ Some y → Fits kind y
  present_fits kind true (Some x) y fits is = subst (Fits kind) (same_Some x y is) fits
  present_fits kind true None y fits is = absurd (cc)
  present_fits kind false o y fits is = absurd (cc)

  active_fits : (kind : PortType) (b : Bool) (y : ℤ) → kind ≡ Clock → (if b then Some (pos 1) else None) ≡ Some y → Fits kind y
  active_fits kind true y clock is = subst (Fits kind) (same_Some (pos 1) y is) (one_fits kind clock)
  active_fits kind false y clock is = absurd (cc)

  module _ (V : List (Option ℤ)) (fits : AreFitting r.system V) where
    by_role : (q : ℕ) (port : Port) (y : ℤ) (role : Role) → port.role ≡ role → Placed r.system q port → slice_get r.system.ports q ≡ Some port → written_by role port V (value V q) ≡ Some y → Fits port.kind y
    by_role q port y (Input None) e placed at is = absurd (cc)
    by_role q port y (Input (Some feed)) e placed at is = present_fits port.kind _ (value V q) y (fits q port at) is
    by_role q port y Output e placed at is = absurd (cc)
    by_role q port y ClockOutput e placed at is = absurd (cc)
    by_role q port y (ClockInput feed) e placed at is = active_fits port.kind _ y (kind_of_clock r.system q port placed (ap is_clock_role e)) is
    by_role q port y (TimeClock timing) e placed at is = active_fits port.kind _ y (kind_of_clock r.system q port placed (ap is_clock_role e)) is

    write_kept : (k : ℕ) (v : Variable) (y : ℤ) → slice_get c.shape.variables k ≡ Some v → under r.system.ports (written_at_port r.system.ports V) i v.reference ≡ Some y → is_kept v.kind (start_of v) y ≡ true
    write_kept k v y at is = by (position (is_under i v.reference) r.system.ports) refl is
      where
        at_port : (q : ℕ) → Found r.system.ports i v.reference q → written_at_port r.system.ports V q ≡ Some y → is_kept v.kind (start_of v) y ≡ true
        at_port q found writes =
            let placed : Placed r.system q found.port = place_in r.system sound q found.port found.is in
            let same : placed.component ≡ c = same_Some placed.component c (sym placed.is.of ∙ ap (slice_get r.system.components) found.component ∙ of_c) in
            let there : slice_get c.shape.variables placed.place ≡ Some placed.variable = ap (λ (x : Component). slice_get x.shape.variables placed.place) (sym same) ∙ placed.there in
            let own : placed.variable ≡ v = one_place c.shape shape_sound placed.place k placed.variable v there at (placed.reference ∙ found.under) in
            let kind : v.kind ≡ Some found.port.kind = ap (λ (w : Variable). w.kind) (sym own) ∙ placed.kind in
            let role : written_by found.port.role found.port V (value V q) ≡ Some y =
            sym (ap (option_and_then (λ (p : Port). written_by p.role p V (value V q))) found.is) ∙ writes in
            kept_fit found.port.kind v.kind (start_of v) y kind (by_role q found.port y found.port.role refl placed found.is role)

        by : (o : Option ℕ) → position (is_under i v.reference) r.system.ports ≡ o → under r.system.ports (written_at_port r.system.ports V) i v.reference ≡ Some y → is_kept v.kind (start_of v) y ≡ true
        by None none is = absurd (none_some (sym (ap (option_and_then (written_at_port r.system.ports V)) none) ∙ is))
          where
            none_some : ◌≡◌ {A = Option ℤ} None (Some y) → ⊥
            none_some e = cc
        by (Some q) found is = at_port q (found_at r.system.ports i v.reference q found) (sym (ap (option_and_then (written_at_port r.system.ports V)) found) ∙ is)

    values_written : (s : MachineState) → all_kept c.shape.variables s.values ≡ true → all_kept c.shape.variables (state_with r.system.ports V i M s).values ≡ true
    values_written s is = kept_all_written c.shape.variables (under r.system.ports (written_at_port r.system.ports V) i) s.values write_kept is

  values_unticked : (s : MachineState) → all_kept c.shape.variables s.values ≡ true → all_kept c.shape.variables (after M s C.Update).values ≡ true
  values_unticked s is =
      kept_all_written c.shape.variables (zero_at (map (λ (v : Variable). v.reference) (filter is_input_clock c.shape.variables))) s.values
      (λ k v y at writes. subst (λ (x : ℤ). is_kept v.kind (start_of v) x ≡ true) (zero_is _ v.reference y writes) (zero_kept c.shape shape_sound k v at)) is

  bound_kept : (bs : List BoundValue) (s : MachineState) → All (IsParameterValue c.shape) bs → is_early c.shape s ≡ true → is_early c.shape (with_bound M bs s) ≡ true
  bound_kept [] s are is = is
  bound_kept (b ∷ bs) s are is =
      let parameter : IsParameterValue c.shape b = All-head (IsParameterValue c.shape) b bs are in
      let parts = both (ranges s.numbers) (all_kept c.shape.variables s.values) is in
      bound_kept bs (after M s (C.Set b.kind b.reference b.value)) (All-tail (IsParameterValue c.shape) b bs are)
      (join _ _ parts.0 (kept_written c.shape.variables b.reference b.value s.values (λ k v at has.
      let found : variable_at c.shape.variables b.reference ≡ Some v = ap (variable_at c.shape.variables) (sym has) ∙ found_under (λ (u : Variable). u.reference) c.shape.variables k v shape_sound.variables.distinct at in
      let same : parameter.variable ≡ v = same_Some parameter.variable v (sym parameter.at ∙ found) in
      kept_fit b.kind v.kind (start_of v) b.value (ap (λ (w : Variable). w.kind) (sym same) ∙ parameter.kind) parameter.fits) parts.1))

  -- ---- the tests last

  marked : (s : MachineState) → is_out s.numbers ≡ true → ranges s.numbers ≡ true → int_eq (numbers_in s.numbers).mark (pos 0) ≡ true
  marked s out in_ranges = sym (ap is_out (ranged s.numbers in_ranges).is) ∙ out

  early : (call : Call) → IsInTime call → (s : MachineState) → is_early c.shape s ≡ true → (ranges (M.change s call) && all_kept c.shape.variables s.values) ≡ true
  early call time s is =
      let parts = both (ranges s.numbers) (all_kept c.shape.variables s.values) is in
      join _ _ (ranges_after model c.shape s.numbers s.values call time parts.0) parts.1

  late : (call : Call) → IsInTime call → ((mark : ℤ) → mark_after mark call ≡ mark) → (s : MachineState) → is_late c.shape s ≡ true → (is_out (M.change s call) && (ranges (M.change s call) && all_kept c.shape.variables s.values)) ≡ true
  late call time keeps s is =
      let one = both (is_out s.numbers) (is_early c.shape s) is in
      let two = both (ranges s.numbers) (all_kept c.shape.variables s.values) one.1 in
      join _ _ (ap (λ (x : ℤ). int_eq x (pos 0)) (keeps (numbers_in s.numbers).mark) ∙ marked s one.0 two.0) (early call time s one.1)

  pub lasts : LastsAlong r i c M (is_early c.shape) (is_late c.shape)
  lasts = record {
    first = join _ _ (ranges_of at_first (record { held = zero_fits Int64; count = zero_fits Int64; point = zero_fits UInt64; fired = zero_fits Boolean })) (first_kept c.shape shape_sound);
    instantiate = λ s is. early (instantiate_of r.plan.link c.shape) tt s is;
    parameters = λ s is. bound_kept (bound_values r i) s (zip_at (λ (x : Component) (values : List BoundValue). AreParameterValues x.shape values) r.system.components r.bound.components i c [] binds of_c).each is;
    enters = λ s is. early (enter_initialization r) (omega arith) s is;
    writes_first = λ V fits s is. let parts = both (ranges s.numbers) (all_kept c.shape.variables s.values) is in join _ _ parts.0 (values_written V fits s parts.1);
    exits = λ s is. join _ _ refl (early C.ExitInitialization tt s is);
    updates = λ s is.
        let one = both (is_out s.numbers) (is_early c.shape s) is in
        let two = both (ranges s.numbers) (all_kept c.shape.variables s.values) one.1 in
        join _ _ (marked s one.0 two.0) (join _ _ (ranges_after model c.shape s.numbers s.values C.Update tt two.0) (values_unticked s two.1));
    enters_step = λ s is. late C.EnterStep tt (λ mark. refl) s is;
    enters_event = λ s is. late C.EnterEvent tt (λ mark. refl) s is;
    steps = λ t size within s is. late (C.DoStep t size) (omega arith) (λ mark. refl) s is;
    writes = λ V fits s is.
        let one = both (is_out s.numbers) (is_early c.shape s) is in
        let two = both (ranges s.numbers) (all_kept c.shape.variables s.values) one.1 in
        join _ _ one.0 (join _ _ two.0 (values_written V fits s two.1));
  }

pub read_back : LastingReadsBack → StatesReadBack → BuiltInsReadBack
read_back lasting back r sound machines binds within ordered small i c m of_c of_m is =
    let component_sound = all_at (λ (x : Component). IsSoundShape x.shape) r.system.components i c sound.components.shapes of_c in
    lasting r sound machines within i m.packing (is_early c.shape) (is_late c.shape)
    (λ d k of_d of_k.
    let same : c ≡ d = same_Some c d (sym of_c ∙ of_d) in
    let machine : machine_of (behaviour_of is.model) c.shape ≡ k = sym is.is ∙ same_Some m k (sym of_m ∙ of_k) in
    subst (λ (x : Component). LastsAlong r i x k (is_early c.shape) (is_late c.shape)) same
    (subst (λ (x : Machine). LastsAlong r i c x (is_early c.shape) (is_late c.shape)) machine (lasts r sound binds ordered small i c is.model of_c)))
    (λ s passes. subst (λ (x : Machine). x.packing.unpack (x.packing.pack (kept s)) ≡ Some (kept s)) (sym is.is)
    (back is.model c.shape (kept s) (can_stand c.shape component_sound s passes)))
