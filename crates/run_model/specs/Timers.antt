-- When time-based Clocks tick (FMI 3.0, 2.2.8 and 2.2.9: constant, fixed, countdown and changing Clocks and their intervals).
use Rattle.std.specs.Prelude.{◌≡◌, ℕ, ◌+◌, Bool, false, ◌==◌, Option, Some, None}
use Rattle.clock_fraction.specs.declared.fraction.Fraction.{Fraction}
use Rattle.clock_fraction.specs.Counts.{counts_of}
use Rattle.clock_fraction.specs.Ticks.{IsTick}
use Rattle.fmi_calls.specs.declared.call.Interval.{Interval}
use Rattle.fmi_calls.specs.declared.call.Interval.TheVariants.{NotYetKnown, Unchanged, Changed}
use Rattle.run_model.specs.Run.{Timer, Never, Every, Once}

-- the timer's Clock ticks at the point
abbrev pub TicksAt : ℕ → Timer → ℕ → Type 0
TicksAt start Never point = ⊥
TicksAt start (Every interval shift) point = IsTick start shift interval point
TicksAt start (Once armed) point = point ≡ armed

-- the timer's Clock ticks in the n-th instant at the point: at an interval, in the first alone
abbrev pub IsDue : ℕ → Timer → ℕ → ℕ → Type 0
IsDue start Never point n = ⊥
IsDue start (Every interval shift) point n = (n ≡ 0) × IsTick start shift interval point
IsDue start (Once armed) point n = point ≡ armed

-- the timer's Clock is armed for the point
abbrev pub is_armed_for : ℕ → Timer → Bool
is_armed_for point Never = false
is_armed_for point (Every interval shift) = false
is_armed_for point (Once armed) = armed == point

-- ---- what FMUs answer

-- armed for so many counts after the point
abbrev pub armed_after : ℕ → Option ℕ → Timer
armed_after point None = Never
armed_after point (Some counts) = Once (point + counts)

-- a countdown Clock's timer once its FMU has answered at the point: an interval that is new arms it, in place of what it was armed for
abbrev pub answered : ℕ → ℕ → Interval → Timer → Timer
answered per_second point NotYetKnown old = Never
answered per_second point (Unchanged f) old = old
answered per_second point (Changed f) old = armed_after point (counts_of f per_second)

-- a changing Clock's timer once it has ticked at the point: the interval that its FMU answers arms it, new or not
abbrev pub rearmed : ℕ → ℕ → Interval → Timer
rearmed per_second point NotYetKnown = Never
rearmed per_second point (Unchanged f) = armed_after point (counts_of f per_second)
rearmed per_second point (Changed f) = armed_after point (counts_of f per_second)

abbrev pub periodic_of : Option ℕ → Option ℕ → Timer
periodic_of (Some interval) (Some shift) = Every interval shift
periodic_of (Some interval) None = Never
periodic_of None shift = Never

-- a fixed Clock's timer by what its FMU answers in Initialization Mode
abbrev pub fixed : ℕ → Interval → Fraction → Timer
fixed per_second NotYetKnown shift = Never
fixed per_second (Unchanged f) shift =
    periodic_of (counts_of f per_second) (counts_of shift per_second)
fixed per_second (Changed f) shift =
    periodic_of (counts_of f per_second) (counts_of shift per_second)
