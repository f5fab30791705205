-- When the constant Clocks of a system tick (FMI 3.0, 2.2.8 and 2.2.9: Clocks and their intervals).
use Rattle.std.specs.Prelude.{◌≡◌, ◌↔◌, ℕ, ◌<◌, ◌≤◌, ◌^◌, ℤ, pos, Option, Some, None, slice_get, All}
use Rattle.clock_fraction.specs.Ticks.{IsTick}
use Rattle.value_types.specs.Shape.{timing_at}
use Rattle.value_types.specs.declared.shape.ClockTiming.{ClockTiming}
use Rattle.value_types.specs.declared.shape.IntervalVariability.TheVariants.{Constant}
use Rattle.system_model.specs.declared.system.Component.{Component}
use Rattle.system_model.specs.declared.system.Timing.TheVariants.{Periodic, Answered, Countdown, Changing}
use Rattle.system_model.specs.declared.system.Role.{Role}
use Rattle.system_model.specs.declared.system.Role.TheVariants.{Input, Output, ClockInput, ClockOutput, TimeClock}
use Rattle.system_model.specs.declared.system.Port.{Port}
use Rattle.system_model.specs.declared.system.System.{System}

-- the description of the port's component calls its Clock constant (intervalVariability)
pub record IsConstant (system : System) (port : Port) : Type 0 where
  pub component : Component
  pub timing : ClockTiming
  pub of : slice_get system.components port.component.0 ≡ Some component
  pub described : timing_at component.shape.clocks port.reference ≡ Some timing
  pub constant : timing.variability ≡ Constant

-- the port is a constant Clock, with this interval and shift in counts
pub record IsConstantClock (system : System) (p interval shift : ℕ) : Type 0 where
  pub port : Port
  pub at : slice_get system.ports p ≡ Some port
  pub role : port.role ≡ TimeClock (Periodic interval shift)
  pub constant : IsConstant system port

-- it ticks in the first instant at each of its points alone
abbrev pub IsDue : ℕ → ℕ → ℕ → ℕ → ℕ → Type 0
IsDue start interval shift t n = (n ≡ 0) × IsTick start shift interval t

-- the Clock ticks between the two points
pub record TicksBetween (start interval shift from to : ℕ) : Type 0 where
  pub tick : ℕ
  pub ticks : IsTick start shift interval tick
  pub after : from < tick
  pub before : tick < to

-- it ticks between the point of the instant before and this one
abbrev pub PassesTick : ℕ → ℕ → ℕ → Option (ℕ × ℕ) → ℕ → Type 0
PassesTick start interval shift None t = ⊥
PassesTick start interval shift (Some (s, m)) t = TicksBetween start interval shift s t

-- a constant Clock with the value v in the n-th instant at t isn't 1 exactly where it is due, or one of its ticks was passed over
pub data IsOffTick (start interval shift : ℕ) (last : Option (ℕ × ℕ)) (t n : ℕ)
    (v : Option ℤ) : Type 0 where
  Wrong : ((v ≡ Some (pos 1)) ↔ IsDue start interval shift t n → ⊥) →
      IsOffTick start interval shift last t n v
  Passed : PassesTick start interval shift last t → IsOffTick start interval shift last t n v

-- ---- limits

-- an interval that is known before the run is above 0, and it and its shift are at most 2^126 counts
abbrev pub HasLimits : Role → Type 0
HasLimits (Input feed) = Unit {0}
HasLimits Output = Unit {0}
HasLimits (ClockInput feed) = Unit {0}
HasLimits ClockOutput = Unit {0}
HasLimits (TimeClock (Periodic interval shift)) =
    (0 < interval) × (interval ≤ 2 ^ 126) × (shift ≤ 2 ^ 126)
HasLimits (TimeClock Answered) = Unit {0}
HasLimits (TimeClock Countdown) = Unit {0}
HasLimits (TimeClock Changing) = Unit {0}

abbrev pub HasLimitedClocks : System → Type 0
HasLimitedClocks system = All (λ (port : Port). HasLimits port.role) system.ports
