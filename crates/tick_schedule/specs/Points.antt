-- The next point of a Clock as one number, by which Clocks are ordered.
use Rattle.std.specs.Prelude.{◌≡◌, ℕ, ◌+◌, ◌*◌, ◌^◌, ◌<◌, ◌≤◌, List, ◌++◌, map, All, Option, nat_le, if◌then◌else◌, Some, None, ⊤}
use Rattle.tick_schedule.specs.declared.clock.ClockState.{ClockState}
use Rattle.tick_schedule.specs.declared.clock.ClockState.TheVariants.{Unasked, Periodic, Countdown}

-- what stands for "none": it is past every stop
abbrev pub past : ℕ
past = 18446744073709551615

abbrev pub up_to : ℕ → ℕ → ℕ
up_to stop point = if nat_le point stop then point else past

-- the point at which a Clock ticks next, up to the stop
abbrev pub point_of : ℕ → ℕ → ClockState → ℕ
point_of start stop Unasked = past
point_of start stop (Periodic interval shift ticks) = up_to stop (start + shift + ticks * interval)
point_of start stop (Countdown (Some point)) = up_to stop point
point_of start stop (Countdown None) = past

-- interval and shift are within bounds
abbrev pub IsSoundState : ClockState → Type 0
IsSoundState Unasked = ⊤
IsSoundState (Periodic interval shift ticks) =
    (0 < interval) × (interval ≤ 2 ^ 126) × (shift ≤ 2 ^ 126)
IsSoundState (Countdown armed) = ⊤

-- the next tick is so near that its point is no number past 128 bits
abbrev pub IsNear : ClockState → Type 0
IsNear Unasked = ⊤
IsNear (Periodic interval shift ticks) = (shift ≤ 2 ^ 126) × (ticks * interval ≤ 2 ^ 126 + 2 ^ 62)
IsNear (Countdown armed) = ⊤

-- one tick more can be counted
abbrev pub HasCount : ClockState → Type 0
HasCount Unasked = ⊤
HasCount (Periodic interval shift ticks) = ticks + 1 < 2 ^ 64
HasCount (Countdown armed) = ⊤

-- an event time is as an arming
abbrev pub event_state : Option ℕ → ClockState
event_state point = Countdown point

-- what has a next point: the Clocks, and after them the components
abbrev pub entries : List ClockState → List (Option ℕ) → List ClockState
entries clocks events = clocks ++ map event_state events

-- what a schedule keeps: the point of each Clock beside its state
pub record IsKept (start stop : ℕ) (clocks : List ClockState) (points : List ℕ) : Type 0 where
  pub run : start ≤ stop
  pub near : stop ≤ 2 ^ 62
  pub sound : All IsSoundState clocks
  pub entered : points ≡ map (point_of start stop) clocks
