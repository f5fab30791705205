-- Sound shapes: what a model description without violation says of an FMU (FMI 3.0, 2.4: model description; 2.2.8: clocks).
use Rattle.std.specs.Prelude.{◌≡◌, ◌≢◌, ◌⊎◌, ◌<◌, Bool, true, false, length, map, filter, not, IfSome, IsSome, IsSomeAnd, is_some, nat_eq, All}
use Rattle.std.specs.List.{AllZip, IsDistinct}
use Rattle.clock_fraction.specs.Counts.{IsInCounts}
use Rattle.clock_fraction.specs.declared.fraction.Fraction.{Fraction}
use Rattle.value_types.specs.Values.{Fits}
use Rattle.value_types.specs.Shape.{is_at, is_clock, is_output_port, is_port}
use Rattle.value_types.specs.declared.values.PortType.{PortType}
use Rattle.value_types.specs.declared.shape.Causality.{Causality}
use Rattle.value_types.specs.declared.shape.Causality.TheVariants as c
use Rattle.value_types.specs.declared.shape.IntervalVariability.{IntervalVariability}
use Rattle.value_types.specs.declared.shape.IntervalVariability.TheVariants.{Constant, Fixed, Tunable, Changing, Countdown, Triggered}
use Rattle.value_types.specs.declared.shape.ClockTiming.{ClockTiming}
use Rattle.value_types.specs.declared.shape.Variable.{Variable}
use Rattle.value_types.specs.declared.shape.Knowns.{Knowns}
use Rattle.value_types.specs.declared.shape.Knowns.TheVariants.{AllInputs, Listed}
use Rattle.value_types.specs.declared.shape.Dependency.{Dependency}
use Rattle.value_types.specs.declared.shape.Shape.{Shape}

-- ---- variables (2.4.7)

-- neither its name nor an alias is empty
abbrev pub HasNames : Variable → Type 0
HasNames v = (0 < length v.name) × All (λ alias. 0 < length alias) v.aliases

-- the start value, where there is one, is of the variable's type
abbrev pub HasFittingStart : Variable → Type 0
HasFittingStart v = IfSome v.start (λ x. IsSomeAnd v.kind (λ (kind : PortType). Fits kind x))

-- what the variable names as its Clocks are Clocks, and aren't ignored where it isn't
abbrev pub NamesClocks : Shape → Variable → Type 0
NamesClocks shape v =
    is_some v.kind ≡ true → All (λ r. is_at is_clock shape.variables r ≡ true) v.clocks

pub record HasSoundVariables (shape : Shape) : Type 0 where
  pub named : All HasNames shape.variables
  pub distinct : IsDistinct nat_eq (map (λ (v : Variable). v.reference) shape.variables)
  pub starts : All HasFittingStart shape.variables
  pub clocks : All (NamesClocks shape) shape.variables

-- ---- Clocks (2.2.8)

-- a triggered Clock is an input or an output, and a time-based one an input; tunable ones are unsupported
abbrev pub MayTick : IntervalVariability → Causality → Type 0
MayTick Constant causality = causality ≡ c.Input
MayTick Fixed causality = causality ≡ c.Input
MayTick Countdown causality = causality ≡ c.Input
MayTick Changing causality = causality ≡ c.Input
MayTick Triggered causality = (causality ≡ c.Input) ⊎ (causality ≡ c.Output)
MayTick Tunable causality = ⊥

-- its interval is in the description: that of a constant Clock, and of a fixed one whose FMU isn't asked for it
abbrev pub is_described : IntervalVariability → Bool → Bool
is_described Constant supports_fraction = true
is_described Fixed supports_fraction = not supports_fraction
is_described Countdown supports_fraction = false
is_described Triggered supports_fraction = false
is_described Tunable supports_fraction = false
is_described Changing supports_fraction = false

-- a Clock with its timing: an interval that is told is above 0, and it and its shift are whole numbers of counts; of a changing Clock neither is used
pub record IsSoundClock (shape : Shape) (v : Variable) (timing : ClockTiming) : Type 0 where
  pub reference : timing.reference ≡ v.reference
  pub events : shape.has_event_mode ≡ true
  pub causality : MayTick timing.variability v.causality
  pub described : is_described timing.variability timing.supports_fraction ≡ true →
      IsSome timing.interval × IsSome timing.shift
  pub interval : timing.variability ≢ Changing →
      IfSome timing.interval (λ (f : Fraction). (0 < f.counter) × IsInCounts shape.resolution f)
  pub shift : timing.variability ≢ Changing → IfSome timing.shift (IsInCounts shape.resolution)

-- ---- dependencies (2.4.9)

-- what is listed are ports
abbrev pub KnowsPorts : Shape → Knowns → Type 0
KnowsPorts shape AllInputs = Unit {0}
KnowsPorts shape (Listed on) = All (λ r. is_at is_port shape.variables r ≡ true) on

-- what an output depends on
pub record IsSoundDependency (shape : Shape) (v : Variable) (dependency : Dependency) : Type 0 where
  pub output : dependency.output ≡ v.reference
  pub on : KnowsPorts shape dependency.on

-- ---- the whole

-- its Clocks that aren't ignored have their timings, and its outputs their dependencies, in the order of the variables; a state is serialized only where it can be saved (2.2.6)
pub record IsSoundShape (shape : Shape) : Type 0 where
  pub variables : HasSoundVariables shape
  pub clocks : AllZip (IsSoundClock shape) (filter is_clock shape.variables) shape.clocks
  pub dependencies : AllZip (IsSoundDependency shape)
      (filter is_output_port shape.variables) shape.dependencies
  pub initial_dependencies : AllZip (IsSoundDependency shape)
      (filter is_output_port shape.variables) shape.initial_dependencies
  pub serialized : shape.can_serialize_state ≡ true → shape.can_save_state ≡ true
