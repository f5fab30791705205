-- Sound systems (SSP 1.0: a system, its components and connections; FMI 3.0, 2.4: their model descriptions): what flattening makes, and what each run asks for.
use Rattle.std.specs.Prelude.{◌≡◌, ℕ, ◌<◌, ◌≤◌, ◌^◌, true, false, [], length, map, Some, IsSomeAnd, All}
use Rattle.std.specs.List.{AllZip, slice_get}
use Rattle.sim_base.specs.declared.numbers.PortId.{PortId}
use Rattle.clock_fraction.specs.Counts.{IsCounts}
use Rattle.clock_fraction.specs.declared.fraction.Fraction.{Fraction}
use Rattle.value_types.specs.Joint.{IsWithin, class_of}
use Rattle.value_types.specs.Shape.{is_clock, timing_at, variable_at}
use Rattle.value_types.specs.declared.shape.Causality.TheVariants as c
use Rattle.value_types.specs.declared.shape.IntervalVariability.TheVariants as v
use Rattle.value_types.specs.declared.shape.ClockTiming.{ClockTiming}
use Rattle.value_types.specs.declared.shape.Variable.{Variable}
use Rattle.value_types.specs.declared.shape.Shape.{Shape}
use Rattle.system_model.specs.declared.system.Component.{Component}
use Rattle.system_model.specs.declared.system.Timing.{Timing}
use Rattle.system_model.specs.declared.system.Timing.TheVariants.{Periodic, Answered, Countdown, Changing}
use Rattle.system_model.specs.declared.system.Role.{Role}
use Rattle.system_model.specs.declared.system.Role.TheVariants.{Input, Output, ClockInput, ClockOutput, TimeClock}
use Rattle.system_model.specs.declared.system.Port.{Port}
use Rattle.system_model.specs.declared.system.Feed.{Feed}
use Rattle.system_model.specs.declared.system.System.{System}
use Rattle.system_model.specs.Carried.{IsOn}
use Rattle.system_model.specs.Ports.{port_numbers, feed_of, is_output_role, label_of, labels_from}
use Rattle.system_model.specs.Needs.{Needs, NeedsInitially, is_unclocked_at}
use Rattle.system_model.specs.EarlyReturn.{early_count}
use Rattle.system_model.specs.Orders.{IsOrder}
use Rattle.system_model.specs.Shapes.{IsSoundShape, is_described}

-- ---- components

-- each has a name and a sound shape, all at one resolution; where two or more might return early, each can save its state
pub record HasSoundComponents (system : System) : Type 0 where
  pub few : length system.components ≤ 256
  pub named : All (λ (c : Component). 0 < length c.name) system.components
  pub shapes : All (λ (c : Component). IsSoundShape c.shape) system.components
  pub per_second : ℕ
  pub above : 0 < per_second
  pub within : per_second ≤ 2 ^ 62
  pub resolutions : All (λ (c : Component). c.shape.resolution ≡ per_second) system.components
  pub saved : 1 < early_count (map (λ (c : Component). c.shape) system.components) →
      All (λ (c : Component). c.shape.can_save_state ≡ true) system.components

-- ---- ports

-- a port, its component, and its variable there
pub record IsPort (system : System) (p : ℕ) (port : Port) (component : Component)
    (variable : Variable) : Type 0 where
  pub at : slice_get system.ports p ≡ Some port
  pub of : slice_get system.components port.component.0 ≡ Some component
  pub there : variable_at component.shape.variables port.reference ≡ Some variable

-- the description gives the interval and the shift, which are so many counts
pub record IsPeriodic (per_second : ℕ) (clock : ClockTiming) (interval shift : ℕ) : Type 0 where
  pub described : is_described clock.variability clock.supports_fraction ≡ true
  pub interval_counts : IsSomeAnd clock.interval (λ (f : Fraction). IsCounts f per_second interval)
  pub shift_counts : IsSomeAnd clock.shift (λ (f : Fraction). IsCounts f per_second shift)
  pub interval_above : 0 < interval
  pub interval_within : interval ≤ 2 ^ 126
  pub shift_within : shift ≤ 2 ^ 126

-- the timing of a time-based Clock is that of its description
abbrev pub IsTiming : ℕ → ClockTiming → Timing → Type 0
IsTiming per_second clock (Periodic interval shift) = IsPeriodic per_second clock interval shift
IsTiming per_second clock Answered =
    (clock.variability ≡ v.Fixed) × (clock.supports_fraction ≡ true)
IsTiming per_second clock Countdown = clock.variability ≡ v.Countdown
IsTiming per_second clock Changing = clock.variability ≡ v.Changing

-- the role of a port is that of its variable
abbrev pub IsRole : Shape → Variable → Role → Type 0
IsRole shape x (Input feed) = (x.causality ≡ c.Input) × (is_clock x ≡ false)
IsRole shape x Output = (x.causality ≡ c.Output) × (is_clock x ≡ false)
IsRole shape x (ClockInput feed) =
    (x.causality ≡ c.Input) × (is_clock x ≡ true) ×
    IsSomeAnd (timing_at shape.clocks x.reference) (λ (t : ClockTiming).
    t.variability ≡ v.Triggered)
IsRole shape x ClockOutput = (x.causality ≡ c.Output) × (is_clock x ≡ true)
IsRole shape x (TimeClock timing) =
    (x.causality ≡ c.Input) × (is_clock x ≡ true) ×
    IsSomeAnd (timing_at shape.clocks x.reference) (λ (t : ClockTiming).
    IsTiming shape.resolution t timing)

-- the number is that of the i-th component's port under a reference
abbrev pub IsUnder : System → ℕ → ℕ → PortId → Type 0
IsUnder system i reference p =
    IsSomeAnd (slice_get system.ports p.0) (λ (port : Port). (port.component.0 ≡ i) ×
    (port.reference ≡ reference))

-- the ports are the variables of the components that are inputs or outputs and aren't ignored, by component and place in its description; each has the role and the Clocks of its variable
pub record HasSoundPorts (system : System) : Type 0 where
  pub few : length system.ports ≤ 65536
  pub numbered : map label_of system.ports ≡ labels_from 0 system.components
  pub roles : (p : ℕ) (port : Port) (component : Component) (variable : Variable) →
      IsPort system p port component variable → IsRole component.shape variable port.role
  pub clocks : (p : ℕ) (port : Port) (component : Component) (variable : Variable) →
      IsPort system p port component variable →
      AllZip (IsUnder system port.component.0) variable.clocks port.clocks

-- ---- connections

-- an input's source is an output of its class, and each change on the way is for that class; without any, each value of the source is one of the input's type
pub record IsFeed (feed : Feed) (source target : Port) : Type 0 where
  pub output : is_output_role source.role ≡ true
  pub same_class : class_of source.kind ≡ class_of target.kind
  pub changes : All (IsOn (class_of target.kind)) feed.changes
  pub range : feed.changes ≡ [] → IsWithin source.kind target.kind

-- each connected input has its source
abbrev pub HasSoundFeeds : System → Type 0
HasSoundFeeds system =
    (p : ℕ) (port : Port) (feed : Feed) → slice_get system.ports p ≡ Some port →
    feed_of port.role ≡ Some feed →
    IsSomeAnd (slice_get system.ports feed.from.0) (λ (source : Port). IsFeed feed source port)

-- ---- the whole

-- each order has each of its ports once, after what it needs: in instants all ports, in Initialization Mode those without Clocks
pub record IsSound (system : System) : Type 0 where
  pub components : HasSoundComponents system
  pub ports : HasSoundPorts system
  pub feeds : HasSoundFeeds system
  pub instant_order : IsOrder (λ p. p < length system.ports) (Needs system)
      (port_numbers system.instant_order)
  pub initial_order : IsOrder (λ p. is_unclocked_at system.ports p ≡ true) (NeedsInitially system)
      (port_numbers system.initial_order)
