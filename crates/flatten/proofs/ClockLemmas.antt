-- The Clocks of a sound shape are ports.
use Rattle.std.proofs.Common.{◌≡◌, ◌⊎◌, ℕ, ◌<◌, Bool, true, false, ◌&&◌, ◌||◌, List, [], ◌∷◌, ◌++◌, length, refl, sym, ◌∙◌, ap, inl, inr, get_or, All, ◌+◌}
use Rattle.std.specs.Prelude.{Option, Some, None, slice_get, is_some, ◌==◌, Contains, IsSomeAnd}
use Rattle.std.specs.List.{AllZip}
use Rattle.std.specs.Option.{option_map_or}
use Rattle.std.proofs.lemmas.List.Elements.{All-get_or}
use Rattle.std.proofs.lemmas.Option.{get_or_from_slice_get}
use Rattle.value_types.specs.Shape.{is_at, is_clock, is_clock_type, is_input, is_output, is_port, place_of, timing_at}
use Rattle.value_types.proofs.CallerLemmas.{find_missing, find_placed}
use Rattle.value_types.specs.declared.values.PortType.{PortType}
use Rattle.value_types.specs.declared.shape.Causality.{Causality}
use Rattle.value_types.specs.declared.shape.Causality.TheVariants as c
use Rattle.value_types.specs.declared.shape.IntervalVariability.{IntervalVariability}
use Rattle.value_types.specs.declared.shape.IntervalVariability.TheVariants.{Constant, Fixed, Tunable, Changing, Countdown, Triggered}
use Rattle.value_types.specs.declared.shape.Variable.{Variable}
use Rattle.value_types.specs.declared.shape.Shape.{Shape}
use Rattle.system_model.specs.Shapes.{IsSoundShape, IsSoundClock, MayTick}
use Rattle.system_model.proofs.CallerLemmas.{all_at, at_contains, found_at, true_false}
use Rattle.sim_base.specs.declared.numbers.PortId.{PortId}
use Rattle.flatten.specs.Indexed.{all_variables, begin_of}
use Rattle.flatten.specs.Ports.{ArePortNumbers, IsPortUnder, port_number}
use Rattle.flatten.proofs.RoleLemmas.{some_at, some_of, timed}
use Rattle.flatten.proofs.LabelLemmas.{as_port, port_numbered, ports_before, variable_at_number}

may_tick : (v : IntervalVariability) (causality : Causality) → MayTick v causality → (causality ≡ c.Input) ⊎ (causality ≡ c.Output)
may_tick Constant causality is = inl is
may_tick Fixed causality is = inl is
may_tick Countdown causality is = inl is
may_tick Triggered causality is = is
may_tick Tunable causality is = absurd is
may_tick Changing causality is = inl is

clock_kind : (kind : Option PortType) → is_clock_type kind ≡ true → is_some kind ≡ true
clock_kind None is = absurd (true_false (sym is))
clock_kind (Some kind) is = refl

abbrev port_test : Causality → Bool → Bool
port_test causality typed = (is_input causality && typed) || (is_output causality && typed)

-- a Clock is an input or an output
pub clock_is_port : (shape : Shape) (x : Variable) → IsSoundShape shape → Contains shape.variables x → is_clock x ≡ true → is_port x ≡ true
clock_is_port shape x sound held is =
    let timing = some_of (timing_at shape.clocks x.reference) (IsSoundClock shape x) (timed shape x sound held is) in
    ap (port_test x.causality) (clock_kind x.kind is)
    ∙ (elim (may_tick timing.0.variability x.causality timing.2.causality) [
      | inl input ↦ ap (λ k. port_test k true) input
      | inr output ↦ ap (λ k. port_test k true) output
    ])

-- the place of a Clock by its reference
pub record ClockPlace (shape : Shape) (reference : ℕ) : Type 0 where
  pub place : ℕ
  pub variable : Variable
  pub found : place_of shape.variables reference ≡ Some place
  pub at : slice_get shape.variables place ≡ Some variable
  pub under : variable.reference ≡ reference
  pub port : is_port variable ≡ true

pub clock_place : (shape : Shape) (reference : ℕ) → IsSoundShape shape → is_at is_clock shape.variables reference ≡ true → ClockPlace shape reference
clock_place shape reference sound is = by (place_of shape.variables reference) refl
  where
    here : (k : ℕ) → place_of shape.variables reference ≡ Some k → (o : Option Variable) → slice_get shape.variables k ≡ o → option_map_or is_clock o false ≡ true → ClockPlace shape reference
    here k e None at clock = absurd (true_false (sym clock))
    here k e (Some x) at clock = record {
      place = k;
      variable = x;
      found = e;
      at = at;
      under = (found_at (λ (v : Variable). v.reference) shape.variables reference x (find_placed (λ (v : Variable). v.reference == reference) shape.variables k e ∙ at)).under;
      port = clock_is_port shape x sound (at_contains shape.variables k x at) clock;
    }

    by : (o : Option ℕ) → place_of shape.variables reference ≡ o → ClockPlace shape reference
    by None e = absurd (true_false (sym is ∙ ap (λ o. option_map_or is_clock o false) (find_missing (λ (v : Variable). v.reference == reference) shape.variables e)))
    by (Some k) e =
        here k e (slice_get shape.variables k) refl (ap (λ o. option_map_or is_clock o false) (sym (find_placed (λ (v : Variable). v.reference == reference) shape.variables k e)) ∙ is)

-- the place of a Clock of a component
pub record KnownPlace (shapes : List Shape) (component reference : ℕ) : Type 0 where
  pub shape : Shape
  pub of : slice_get shapes component ≡ Some shape
  pub clock : ClockPlace shape reference

pub known_place : (shapes : List Shape) (component reference : ℕ) → All IsSoundShape shapes → IsSomeAnd (slice_get shapes component) (λ (s : Shape). is_at is_clock s.variables reference ≡ true)
    → KnownPlace shapes component reference
known_place shapes component reference sound known =
    let s = some_of (slice_get shapes component) (λ (z : Shape). is_at is_clock z.variables reference ≡ true) known in
    record { shape = s.0; of = s.1; clock = clock_place s.0 reference (all_at IsSoundShape shapes component s.0 sound s.1) s.2 }

-- its port is found among the numbers of ports
pub clock_port : (shapes : List Shape) (numbers : List (Option PortId)) (component reference n : ℕ) (known : KnownPlace shapes component reference) (o : Option PortId) → ArePortNumbers shapes numbers
    → n ≡ begin_of shapes component + known.clock.place → o ≡ get_or numbers n o → IsSomeAnd o (IsPortUnder shapes component reference)
clock_port shapes numbers component reference n known o are at is =
    let k = known.clock in
    let m = begin_of shapes component + k.place in
    let there : slice_get (all_variables shapes) m ≡ Some k.variable = variable_at_number shapes component known.shape k.place k.variable known.of k.at in
    let number = port_numbered shapes m k.variable k.port in
    some_at o (IsPortUnder shapes component reference) (as_port (ports_before shapes m))
    (is ∙ get_or_from_slice_get numbers n (port_number shapes m k.variable) o (ap (slice_get numbers) at ∙ are.each m k.variable there) ∙ number)
    (record { shape = known.shape; place = k.place; variable = k.variable; of = known.of; at = k.at; under = k.under; is = number })

-- ---- the Clocks of a variable

pub known_each : (shapes : List Shape) (component : ℕ) (references : List ℕ) (i d : ℕ) → IsSomeAnd (slice_get shapes component) (λ (s : Shape). All (λ r. is_at is_clock s.variables r ≡ true) references) → i < length references
    → IsSomeAnd (slice_get shapes component) (λ (s : Shape). is_at is_clock s.variables (get_or references i d) ≡ true)
known_each shapes component references i d known within =
    let s = some_of (slice_get shapes component) (λ (z : Shape). All (λ r. is_at is_clock z.variables r ≡ true) references) known in
    some_at (slice_get shapes component) (λ (z : Shape). is_at is_clock z.variables (get_or references i d) ≡ true) s.0 s.1
    (All-get_or (λ r. is_at is_clock s.0.variables r ≡ true) references i d within s.2)

pub zip_push : {X Y : Type 0} (R : X → Y → Type 0) (xs : List X) (ys : List Y) (x : X) (y : Y) → AllZip R xs ys → R x y → AllZip R (xs ++ x ∷ []) (ys ++ y ∷ [])
zip_push R [] [] x y zip h = (h, tt)
zip_push R [] (z ∷ ys) x y zip h = absurd zip
zip_push R (z ∷ xs) [] x y zip h = absurd zip
zip_push R (z ∷ xs) (w ∷ ys) x y zip h = (zip.0, zip_push R xs ys x y zip.1 h)
