-- The time-based Clocks of a run, and when they tick (FMI 3.0, 2.2.8 and 2.2.9: constant, fixed, changing and countdown
-- Clocks and their intervals). All is in counts.
use Rattle.std.specs.Prelude.{◌≡◌, ◌↔◌, ℕ, ◌+◌, ◌-◌, ◌*◌, ◌/◌, ◌^◌, ◌<◌, ◌≤◌, nat_lt, if◌then◌else◌, List, length, slice_set, Option, Some, None, IfSome, IsSomeAnd}
use Rattle.std.specs.List.{slice_get}
use Rattle.clock_fraction.specs.Ticks.{IsTick}
use Rattle.value_types.specs.declared.shape.IntervalVariability.{IntervalVariability}
use Rattle.value_types.specs.declared.shape.IntervalVariability.TheVariants.{Constant, Fixed, Tunable, Changing, Countdown as IsCountdownClock, Triggered}
use Rattle.tick_schedule.specs.declared.clock.TimeClock.{TimeClock}
use Rattle.tick_schedule.specs.declared.clock.ClockState.{ClockState}
use Rattle.tick_schedule.specs.declared.clock.ClockState.TheVariants.{Unasked, Periodic, Countdown}

-- a run from its start to its stop, where each of its Clocks stands, and the event time of each component, if it has one
pub record Timetable : Type 0 where
  pub start : ℕ
  pub stop : ℕ
  pub clocks : List ClockState
  pub events : List (Option ℕ)

-- ---- ticks

-- the Clock has a tick at `t` that it still has to make: a periodic one by its shift and interval, from its next tick on; a countdown one where it is armed for `t`
abbrev pub IsToTick : ℕ → ClockState → ℕ → Type 0
IsToTick start Unasked t = ⊥
IsToTick start (Periodic interval shift ticks) t =
    IsTick start shift interval t × (start + shift + ticks * interval ≤ t)
IsToTick start (Countdown armed) t = armed ≡ Some t

-- the Clock at this place has a tick at `t` that it still has to make, and `t` isn't past the stop
abbrev pub TicksAt : Timetable → ℕ → ℕ → Type 0
TicksAt table clock t =
    (t ≤ table.stop) × IsSomeAnd (slice_get table.clocks clock) (λ state.
    IsToTick table.start state t)

-- the component at this place has its event time at `t`, and `t` isn't past the stop
abbrev pub EventAt : Timetable → ℕ → ℕ → Type 0
EventAt table component t =
    (t ≤ table.stop) × (slice_get table.events component ≡ Some (Some t))

-- a tick is left that it has to make
abbrev pub HasNext : Timetable → ℕ → Type 0
HasNext table clock = (t : ℕ) × TicksAt table clock t

-- ---- changes

-- the Clock at this place stands there, and all else is as it was
abbrev pub with_clock : Timetable → ℕ → ClockState → Timetable
with_clock table clock state = record table { clocks = slice_set table.clocks clock state }

-- the component at this place has this event time, and all else is as it was
abbrev pub with_event : Timetable → ℕ → Option ℕ → Timetable
with_event table component point =
    record table { events = slice_set table.events component point }

-- how many next points there are
abbrev pub size_of : Timetable → ℕ
size_of table = length table.clocks + length table.events

-- where a Clock stands once it has ticked: a periodic one before the next tick, a countdown one without its arming
abbrev pub after_tick : ClockState → ClockState
after_tick Unasked = Unasked
after_tick (Periodic interval shift ticks) = Periodic interval shift (ticks + 1)
after_tick (Countdown armed) = Countdown None

-- a fixed Clock that is still to be asked
abbrev pub IsUnasked : Timetable → ℕ → Type 0
IsUnasked table clock = slice_get table.clocks clock ≡ Some Unasked

-- a countdown Clock or a changing one, armed or not
abbrev pub IsCountdown : Timetable → ℕ → Type 0
IsCountdown table clock =
    (armed : Option ℕ) × (slice_get table.clocks clock ≡ Some (Countdown armed))

-- ---- before a run

-- an interval and a shift that are known are within bounds
pub record IsSoundClock (clock : TimeClock) : Type 0 where
  pub interval : IfSome clock.interval (λ interval. (0 < interval) × (interval ≤ 2 ^ 126))
  pub shift : IfSome clock.shift (λ shift. shift ≤ 2 ^ 126)

-- periodic where interval and shift are known
abbrev pub known_state : Option ℕ → Option ℕ → ClockState
known_state (Some interval) (Some shift) = Periodic interval shift 0
known_state (Some interval) None = Unasked
known_state None shift = Unasked

-- where a Clock stands before the first instant: a countdown or changing one without arming, another before its first tick, or still to be asked
abbrev pub first_by : IntervalVariability → Option ℕ → Option ℕ → ClockState
first_by Constant interval shift = known_state interval shift
first_by Fixed interval shift = known_state interval shift
first_by Tunable interval shift = known_state interval shift
first_by Changing interval shift = Countdown None
first_by IsCountdownClock interval shift = Countdown None
first_by Triggered interval shift = known_state interval shift

abbrev pub first_state : TimeClock → ClockState
first_state clock = first_by clock.variability clock.interval clock.shift

-- ---- a run that is resumed after a point

-- how many ticks a periodic Clock has made up to the point
abbrev pub ticks_up_to : (start shift interval t : ℕ) → ℕ
ticks_up_to start shift interval t =
    if nat_lt t (start + shift) then 0 else (t - (start + shift)) / interval + 1

-- where a Clock stands after the point
abbrev pub resumed_in : ℕ → ℕ → ClockState → ClockState
resumed_in start t Unasked = Unasked
resumed_in start t (Periodic interval shift ticks) =
    Periodic interval shift (ticks_up_to start shift interval t)
resumed_in start t (Countdown armed) = Countdown armed

abbrev pub resumed_state : ℕ → ℕ → TimeClock → ClockState
resumed_state start t clock = resumed_in start t (first_state clock)

-- after the point a Clock stands before its least tick above it
abbrev pub ResumesAbove : Type 0
ResumesAbove = (start shift interval t u : ℕ) → 0 < interval →
    (IsToTick start (Periodic interval shift (ticks_up_to start shift interval t)) u
    ↔ (IsTick start shift interval u × (t < u)))

-- the interval and the shift of a periodic Clock
abbrev pub timing_in : ClockState → Option (ℕ × ℕ)
timing_in Unasked = None
timing_in (Periodic interval shift ticks) = Some (interval, shift)
timing_in (Countdown armed) = None
