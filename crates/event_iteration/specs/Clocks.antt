-- The Clocks of a run in its schedule, which has a place for each port and the event times of its components (FMI 3.0, 2.2.8 and 2.2.9: constant, fixed, countdown and changing Clocks).
use Rattle.std.specs.Prelude.{◌≡◌, ◌↔◌, ⊤, ℕ, ◌+◌, ◌*◌, ◌<◌, ◌≤◌, ◌==◌, Bool, true, false, List, length, map, All, Option, Some, None, IfSome}
use Rattle.std.specs.List.{slice_get}
use Rattle.std.specs.Option.{option_map_or}
use Rattle.system_model.specs.declared.system.Component.{Component}
use Rattle.system_model.specs.declared.system.Role.{Role}
use Rattle.system_model.specs.declared.system.Role.TheVariants.{Input, Output, ClockInput, ClockOutput, TimeClock}
use Rattle.system_model.specs.declared.system.Timing.{Timing}
use Rattle.system_model.specs.declared.system.Timing.TheVariants.{Periodic, Answered, Countdown, Changing}
use Rattle.system_model.specs.declared.system.Port.{Port}
use Rattle.system_model.specs.declared.system.System.{System}
use Rattle.value_types.specs.declared.shape.IntervalVariability.{IntervalVariability}
use Rattle.value_types.specs.declared.shape.IntervalVariability.TheVariants as V
use Rattle.tick_schedule.specs.declared.clock.TimeClock.{TimeClock as ScheduledClock}
use Rattle.tick_schedule.specs.declared.clock.ClockState.{ClockState}
use Rattle.tick_schedule.specs.declared.clock.ClockState.TheVariants as S
use Rattle.tick_schedule.specs.Timetable.{Timetable}
use Rattle.run_model.specs.Run.{Timer, Never, Every, Once}
use Rattle.run_model.specs.Equations.{timer_of}
use Rattle.run_model.specs.Timers.{IsDue}

-- ---- timers

-- the timer of a Clock that stands so in the schedule
abbrev pub timer_in : ClockState → Timer
timer_in S.Unasked = Never
timer_in (S.Periodic interval shift ticks) = Every interval shift
timer_in (S.Countdown None) = Never
timer_in (S.Countdown (Some point)) = Once point

-- the timer of each port
abbrev pub timers_in : Timetable → List Timer
timers_in table = map timer_in table.clocks

-- ---- places

-- where a port stands in the schedule at first: a Clock that ticks as its description says before its first tick, a countdown or changing Clock unarmed, a fixed one whose FMU is asked unasked; any other port never ticks
abbrev pub first_place : Role → ClockState
first_place (TimeClock (Periodic interval shift)) = S.Periodic interval shift 0
first_place (TimeClock Answered) = S.Unasked
first_place (TimeClock Countdown) = S.Countdown None
first_place (TimeClock Changing) = S.Countdown None
first_place (Input feed) = S.Unasked
first_place Output = S.Unasked
first_place (ClockInput feed) = S.Unasked
first_place ClockOutput = S.Unasked

-- what it is to the schedule before a run
abbrev pub unasked : IntervalVariability → ScheduledClock
unasked variability = record { variability = variability; interval = None; shift = None }

abbrev pub first_clock : Role → ScheduledClock
first_clock (TimeClock (Periodic interval shift)) =
    record { variability = V.Constant; interval = Some interval; shift = Some shift }
first_clock (TimeClock Answered) = unasked V.Fixed
first_clock (TimeClock Countdown) = unasked V.Countdown
first_clock (TimeClock Changing) = unasked V.Changing
first_clock (Input feed) = unasked V.Triggered
first_clock Output = unasked V.Triggered
first_clock (ClockInput feed) = unasked V.Triggered
first_clock ClockOutput = unasked V.Triggered

-- no component has an event time
abbrev pub no_events : System → List (Option ℕ)
no_events system = map (λ (c : Component). None) system.components

abbrev pub first_table : System → (start stop : ℕ) → Timetable
first_table system start stop = record {
  start = start;
  stop = stop;
  clocks = map (λ (port : Port). first_place port.role) system.ports;
  events = no_events system;
}

-- where it stands later: a constant or fixed Clock has an interval and a shift, and a countdown or changing Clock is armed or not
abbrev pub IsPlaceOf : Role → ClockState → Type 0
IsPlaceOf (TimeClock (Periodic interval shift)) place =
    (ticks : ℕ) × (place ≡ S.Periodic interval shift ticks)
IsPlaceOf (TimeClock Answered) place =
    (interval shift ticks : ℕ) × (place ≡ S.Periodic interval shift ticks) × (0 < interval)
IsPlaceOf (TimeClock Countdown) place = (armed : Option ℕ) × (place ≡ S.Countdown armed)
IsPlaceOf (TimeClock Changing) place = (armed : Option ℕ) × (place ≡ S.Countdown armed)
IsPlaceOf (Input feed) place = place ≡ S.Unasked
IsPlaceOf Output place = place ≡ S.Unasked
IsPlaceOf (ClockInput feed) place = place ≡ S.Unasked
IsPlaceOf ClockOutput place = place ≡ S.Unasked

-- the next tick of a Clock is its first at the point, or after it; in a later instant of the point its first after it. A countdown or changing Clock isn't armed for an earlier point
abbrev pub IsNextFrom : (start t : ℕ) → (is_first : Bool) → ClockState → Type 0
IsNextFrom start t is_first S.Unasked = ⊤
IsNextFrom start t true (S.Periodic interval shift ticks) =
    (t ≤ start + shift + ticks * interval) ×
    ((k : ℕ) → k < ticks → start + shift + k * interval < t)
IsNextFrom start t false (S.Periodic interval shift ticks) =
    (t < start + shift + ticks * interval) ×
    ((k : ℕ) → k < ticks → start + shift + k * interval ≤ t)
IsNextFrom start t is_first (S.Countdown armed) = IfSome armed (λ point. t ≤ point)

-- the schedule stands before an instant at the point, the first there or a later one
pub record StandsAt (system : System) (t : ℕ) (is_first : Bool) (table : Timetable) : Type 0 where
  pub len : length table.clocks ≡ length system.ports
  pub components : length table.events ≡ length system.components
  pub places : (p : ℕ) (port : Port) (place : ClockState) → slice_get system.ports p ≡ Some port →
      slice_get table.clocks p ≡ Some place → IsPlaceOf port.role place
  pub next : All (IsNextFrom table.start t is_first) table.clocks
  pub within : t ≤ table.stop

-- ---- ticks

-- whether the next tick of a Clock that stands so is at the point
abbrev pub is_due_in : (start t : ℕ) → ClockState → Bool
is_due_in start t S.Unasked = false
is_due_in start t (S.Periodic interval shift ticks) = start + shift + ticks * interval == t
is_due_in start t (S.Countdown None) = false
is_due_in start t (S.Countdown (Some point)) = point == t

abbrev pub is_due_at : Timetable → ℕ → ℕ → Bool
is_due_at table t p = option_map_or (is_due_in table.start t) (slice_get table.clocks p) false

-- these are the ticks of the n-th instant at a point: of the time-based Clocks exactly those whose timers are due there
abbrev pub AreTicks : System → (start : ℕ) → List Timer → (t n : ℕ) → (ℕ → Bool) → Type 0
AreTicks system start timers t n ticks =
    (p : ℕ) (port : Port) (timing : Timing) → slice_get system.ports p ≡ Some port →
    port.role ≡ TimeClock timing →
    (ticks p ≡ true) ↔ IsDue start (timer_of timers p) t n
