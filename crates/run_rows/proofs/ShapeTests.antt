-- A test of shapes, which computes, and which sound shapes pass alone.
use Rattle.std.proofs.Common.{◌≡◌, ◌⊎◌, ℕ, ◌*◌, ◌/◌, ◌<◌, Bool, true, false, ◌&&◌, ◌||◌, List, [], ◌∷◌, length, map, filter, refl, sym, inl, inr, nat_lt}
use Rattle.std.specs.Prelude.{IsSome, IsSomeAnd, is_some, ◌==◌}
use Rattle.std.proofs.lemmas.Bool.{eqb-true, ltb-true}
use Rattle.clock_fraction.specs.declared.fraction.Fraction.{Fraction}
use Rattle.value_types.specs.Values.{Fits, is_fitting}
use Rattle.value_types.specs.Shape.{is_at, is_clock, is_input, is_output, is_output_port, is_port}
use Rattle.value_types.specs.declared.values.PortType.{PortType}
use Rattle.value_types.specs.declared.shape.Causality.{Causality}
use Rattle.value_types.specs.declared.shape.Causality.TheVariants as V
use Rattle.value_types.specs.declared.shape.IntervalVariability.{IntervalVariability}
use Rattle.value_types.specs.declared.shape.IntervalVariability.TheVariants.{Constant, Fixed, Tunable, Changing, Countdown, Triggered}
use Rattle.value_types.specs.declared.shape.ClockTiming.{ClockTiming}
use Rattle.value_types.specs.declared.shape.Variable.{Variable}
use Rattle.value_types.specs.declared.shape.Knowns.{Knowns}
use Rattle.value_types.specs.declared.shape.Knowns.TheVariants.{AllInputs, Listed}
use Rattle.value_types.specs.declared.shape.Dependency.{Dependency}
use Rattle.value_types.specs.declared.shape.Shape.{Shape}
use Rattle.system_model.specs.Shapes.{HasNames, HasFittingStart, NamesClocks, MayTick, is_described, IsSoundClock, KnowsPorts, IsSoundDependency, IsSoundShape}
use Rattle.clock_fraction.specs.Counts.{IsInCounts}
use Rattle.run_rows.proofs.Tests.{true_false, left, right, implies, implied, every, all_by, zips, zip_by, are_distinct, distinct_by, if_some, if_some_by, is_some_and, is_some_and_by, fits_by, holds, parts, are_counts, counts_by}

-- ---- causalities

pub input_by : (causality : Causality) → is_input causality ≡ true → causality ≡ V.Input
input_by V.Input e = refl
input_by V.Output e = absurd (true_false (sym e))
input_by V.Parameter e = absurd (true_false (sym e))
input_by V.CalculatedParameter e = absurd (true_false (sym e))
input_by V.StructuralParameter e = absurd (true_false (sym e))
input_by V.Local e = absurd (true_false (sym e))
input_by V.Independent e = absurd (true_false (sym e))
input_by V.Other e = absurd (true_false (sym e))

pub output_by : (causality : Causality) → is_output causality ≡ true → causality ≡ V.Output
output_by V.Output e = refl
output_by V.Input e = absurd (true_false (sym e))
output_by V.Parameter e = absurd (true_false (sym e))
output_by V.CalculatedParameter e = absurd (true_false (sym e))
output_by V.StructuralParameter e = absurd (true_false (sym e))
output_by V.Local e = absurd (true_false (sym e))
output_by V.Independent e = absurd (true_false (sym e))
output_by V.Other e = absurd (true_false (sym e))

either : (a b : Bool) {P Q : Type 0} → (a ≡ true → P) → (b ≡ true → Q) → (a || b) ≡ true → P ⊎ Q
either true b p q e = inl (p refl)
either false b p q e = inr (q e)

-- ---- variables

abbrev has_names : Variable → Bool
has_names v = nat_lt 0 (length v.name) && every (λ alias. nat_lt 0 (length alias)) v.aliases

names_by : (v : Variable) → has_names v ≡ true → HasNames v
names_by v e = (
  ltb-true 0 (length v.name) (left (nat_lt 0 (length v.name)) (every (λ alias. nat_lt 0 (length alias)) v.aliases) e),
  all_by (λ alias. nat_lt 0 (length alias)) (λ alias. 0 < length alias) (λ alias h. ltb-true 0 (length alias) h) v.aliases (right (nat_lt 0 (length v.name)) (every (λ alias. nat_lt 0 (length alias)) v.aliases) e),
)

abbrev has_fitting_start : Variable → Bool
has_fitting_start v = if_some (λ x. is_some_and (λ (kind : PortType). is_fitting kind x) v.kind) v.start

start_by : (v : Variable) → has_fitting_start v ≡ true → HasFittingStart v
start_by v e = if_some_by (λ x. is_some_and (λ (kind : PortType). is_fitting kind x) v.kind) (λ x. IsSomeAnd v.kind (λ (kind : PortType). Fits kind x))
    (λ x h. is_some_and_by (λ (kind : PortType). is_fitting kind x) (λ (kind : PortType). Fits kind x) (λ kind k. fits_by kind x k) v.kind h) v.start e

abbrev names_clocks : Shape → Variable → Bool
names_clocks shape v = every (λ r. is_at is_clock shape.variables r) v.clocks

clocks_by : (shape : Shape) (v : Variable) → names_clocks shape v ≡ true → NamesClocks shape v
clocks_by shape v e some = all_by (λ r. is_at is_clock shape.variables r) (λ r. is_at is_clock shape.variables r ≡ true) (λ r h. h) v.clocks e

-- ---- Clocks

abbrev may_tick : IntervalVariability → Causality → Bool
may_tick Constant causality = is_input causality
may_tick Fixed causality = is_input causality
may_tick Countdown causality = is_input causality
may_tick Triggered causality = is_input causality || is_output causality
may_tick Tunable causality = false
may_tick Changing causality = is_input causality

may_tick_by : (variability : IntervalVariability) (causality : Causality) → may_tick variability causality ≡ true → MayTick variability causality
may_tick_by Constant causality e = input_by causality e
may_tick_by Fixed causality e = input_by causality e
may_tick_by Countdown causality e = input_by causality e
may_tick_by Triggered causality e = either (is_input causality) (is_output causality) (input_by causality) (output_by causality) e
may_tick_by Tunable causality e = absurd (true_false (sym e))
may_tick_by Changing causality e = input_by causality e

abbrev is_whole : ℕ → Fraction → Bool
is_whole per_second f = are_counts per_second (per_second * f.counter / f.resolution) f

whole_by : (per_second : ℕ) (f : Fraction) → is_whole per_second f ≡ true → IsInCounts per_second f
whole_by per_second f e = (per_second * f.counter / f.resolution, counts_by per_second (per_second * f.counter / f.resolution) f e)

abbrev clock_parts : Shape → Variable → ClockTiming → List Bool
clock_parts shape v t =
    (t.reference == v.reference) ∷ shape.has_event_mode ∷ may_tick t.variability v.causality
    ∷ implies (is_described t.variability t.supports_fraction) (is_some t.interval && is_some t.shift)
    ∷ if_some (λ (f : Fraction). nat_lt 0 f.counter && is_whole shape.resolution f) t.interval ∷ if_some (is_whole shape.resolution) t.shift ∷ []

clock_by : (shape : Shape) (v : Variable) (t : ClockTiming) → holds (clock_parts shape v t) ≡ true → IsSoundClock shape v t
clock_by shape v t e = let p = parts (clock_parts shape v t) e in
    record {
      reference = eqb-true t.reference v.reference p.0;
      events = p.1.0;
      causality = may_tick_by t.variability v.causality p.1.1.0;
      described = λ d. both (implied (is_described t.variability t.supports_fraction) (is_some t.interval && is_some t.shift) p.1.1.1.0 d);
      interval = λ used. if_some_by (λ (f : Fraction). nat_lt 0 f.counter && is_whole shape.resolution f) (λ (f : Fraction). (0 < f.counter) × IsInCounts shape.resolution f)
          (λ f h. (ltb-true 0 f.counter (left (nat_lt 0 f.counter) (is_whole shape.resolution f) h), whole_by shape.resolution f (right (nat_lt 0 f.counter) (is_whole shape.resolution f) h))) t.interval p.1.1.1.1.0;
      shift = λ used. if_some_by (is_whole shape.resolution) (IsInCounts shape.resolution) (λ f h. whole_by shape.resolution f h) t.shift p.1.1.1.1.1.0;
    }
  where
    both : (is_some t.interval && is_some t.shift) ≡ true → IsSome t.interval × IsSome t.shift
    both h = (left (is_some t.interval) (is_some t.shift) h, right (is_some t.interval) (is_some t.shift) h)

-- ---- dependencies

abbrev knows_ports : Shape → Knowns → Bool
knows_ports shape AllInputs = true
knows_ports shape (Listed on) = every (λ r. is_at is_port shape.variables r) on

knows_by : (shape : Shape) (on : Knowns) → knows_ports shape on ≡ true → KnowsPorts shape on
knows_by shape AllInputs e = tt
knows_by shape (Listed on) e = all_by (λ r. is_at is_port shape.variables r) (λ r. is_at is_port shape.variables r ≡ true) (λ r h. h) on e

abbrev is_sound_dependency : Shape → Variable → Dependency → Bool
is_sound_dependency shape v d = (d.output == v.reference) && knows_ports shape d.on

dependency_by : (shape : Shape) (v : Variable) (d : Dependency) → is_sound_dependency shape v d ≡ true → IsSoundDependency shape v d
dependency_by shape v d e = record {
  output = eqb-true d.output v.reference (left (d.output == v.reference) (knows_ports shape d.on) e);
  on = knows_by shape d.on (right (d.output == v.reference) (knows_ports shape d.on) e);
}

-- ---- the whole

abbrev shape_parts : Shape → List Bool
shape_parts shape =
    every has_names shape.variables ∷ are_distinct (map (λ (v : Variable). v.reference) shape.variables) ∷ every has_fitting_start shape.variables ∷ every (names_clocks shape) shape.variables
    ∷ zips (λ v t. holds (clock_parts shape v t)) (filter is_clock shape.variables) shape.clocks
    ∷ zips (is_sound_dependency shape) (filter is_output_port shape.variables) shape.dependencies
    ∷ zips (is_sound_dependency shape) (filter is_output_port shape.variables) shape.initial_dependencies
    ∷ implies shape.can_serialize_state shape.can_save_state ∷ []

abbrev pub is_sound_shape : Shape → Bool
is_sound_shape shape = holds (shape_parts shape)

pub shape_by : (shape : Shape) → is_sound_shape shape ≡ true → IsSoundShape shape
shape_by shape e = let p = parts (shape_parts shape) e in
    record {
      variables = record {
        named = all_by has_names HasNames names_by shape.variables p.0;
        distinct = distinct_by (map (λ (v : Variable). v.reference) shape.variables) p.1.0;
        starts = all_by has_fitting_start HasFittingStart start_by shape.variables p.1.1.0;
        clocks = all_by (names_clocks shape) (NamesClocks shape) (clocks_by shape) shape.variables p.1.1.1.0;
      };
      clocks = zip_by (λ v t. holds (clock_parts shape v t)) (IsSoundClock shape) (clock_by shape) (filter is_clock shape.variables) shape.clocks p.1.1.1.1.0;
      dependencies = zip_by (is_sound_dependency shape) (IsSoundDependency shape) (dependency_by shape) (filter is_output_port shape.variables) shape.dependencies p.1.1.1.1.1.0;
      initial_dependencies = zip_by (is_sound_dependency shape) (IsSoundDependency shape) (dependency_by shape) (filter is_output_port shape.variables) shape.initial_dependencies p.1.1.1.1.1.1.0;
      serialized = implied shape.can_serialize_state shape.can_save_state p.1.1.1.1.1.1.1.0;
    }
