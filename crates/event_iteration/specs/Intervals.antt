-- The questions for the intervals of Clocks (FMI 3.0, 2.2.9: fmi3GetIntervalFraction, fmi3GetShiftFraction): of fixed and changing Clocks in Initialization Mode, of countdown and changing Clocks after instants.
use Rattle.std.specs.Prelude.{◌≡◌, ℕ, suc, ℤ, Bool, true, false, if◌then◌else◌, List, [], ◌∷◌, ◌++◌, Option, Some, None, Result, Ok, Err}
use Rattle.std.specs.List.{list_any, slice_get}
use Rattle.std.specs.Option.{option_map_or}
use Rattle.clock_fraction.specs.Counts.{counts_of}
use Rattle.clock_fraction.specs.declared.fraction.Fraction.{Fraction}
use Rattle.fmi_calls.specs.declared.call.Call.{Call}
use Rattle.fmi_calls.specs.declared.call.Call.TheVariants as C
use Rattle.fmi_calls.specs.declared.call.Interval.{Interval}
use Rattle.fmi_calls.specs.declared.call.Interval.TheVariants.{NotYetKnown}
use Rattle.fmi_calls.specs.declared.call.Reply.{Reply}
use Rattle.fmu_peer.specs.CloseAll.{Instance}
use Rattle.system_model.specs.declared.system.Role.{Role}
use Rattle.system_model.specs.declared.system.Role.TheVariants.{Input, Output, ClockInput, ClockOutput, TimeClock}
use Rattle.system_model.specs.declared.system.Timing.TheVariants.{Periodic, Answered, Countdown, Changing}
use Rattle.system_model.specs.declared.system.Port.{Port}
use Rattle.system_model.specs.declared.system.System.{System}
use Rattle.tick_schedule.specs.Timetable.{Timetable}
use Rattle.run_model.specs.Run.{Run, Situation, Timer, Never, Every}
use Rattle.system_model.specs.Values.{value, is_active}
use Rattle.run_model.specs.Initial.{first_timers, initialized, interval_in, shift_in}
use Rattle.run_model.specs.AfterInstant.{next_timers, written}
use Rattle.run_model.specs.Machines.{AreMachines, IsSituation}
use Rattle.run_model.specs.Timers.{answered, armed_after, fixed, is_armed_for, rearmed}
use Rattle.slot_calls.specs.declared.bad_answer.BadAnswer.{BadAnswer}
use Rattle.slot_calls.specs.Carried.{reply_in}
use Rattle.slot_calls.specs.Log.{ComponentCall, Sent, Told}
use Rattle.slot_calls.specs.Stage.{IsAnswered, StopsAt, shapes_of}
use Rattle.event_iteration.specs.Clocks.{is_due_at}
use Rattle.event_iteration.specs.Explains.{Explains, ExplainsUntil}
use Rattle.event_iteration.specs.Machines.{AreAt}
use Rattle.event_iteration.specs.Settings.{port_order}
use Rattle.event_iteration.specs.Turns.{Rules}

abbrev pub interval_by : Option Reply → Interval
interval_by reply = option_map_or interval_in reply NotYetKnown

abbrev pub shift_by : Option Reply → Fraction
shift_by reply = option_map_or shift_in reply (record { counter = 0; resolution = 0 })

-- ---- fixed and changing Clocks, in Initialization Mode

-- interval and shift of a fixed Clock whose FMU is asked for them, and the shift of a changing Clock
abbrev pub timing_calls_of : Role → Port → List ComponentCall
timing_calls_of (TimeClock Answered) port =
    record { component = port.component.0; call = C.GetInterval port.reference } ∷
    record { component = port.component.0; call = C.GetShift port.reference } ∷ []
timing_calls_of (TimeClock Changing) port =
    record { component = port.component.0; call = C.GetShift port.reference } ∷ []
timing_calls_of (TimeClock (Periodic interval shift)) port = []
timing_calls_of (TimeClock Countdown) port = []
timing_calls_of (Input feed) port = []
timing_calls_of Output port = []
timing_calls_of (ClockInput feed) port = []
timing_calls_of ClockOutput port = []

abbrev pub timing_calls_in : List Port → List ComponentCall
timing_calls_in [] = []
timing_calls_in (port ∷ ports) = timing_calls_of port.role port ++ timing_calls_in ports

-- those of all these Clocks, in port order
abbrev pub timing_calls : System → List ComponentCall
timing_calls system = timing_calls_in system.ports

-- the timer that two answers tell, which stand first in the log
abbrev pub told_timer : ℕ → List Sent → Timer
told_timer per_second (interval ∷ shift ∷ log) =
    fixed per_second (interval_by (reply_in interval.exchange)) (shift_by (reply_in shift.exchange))
told_timer per_second (interval ∷ []) = Never
told_timer per_second [] = Never

-- the log after those two
abbrev pub after_two : List Sent → List Sent
after_two (interval ∷ shift ∷ log) = log
after_two (interval ∷ []) = []
after_two [] = []

-- the timer that the answer tells which stands first in the log: armed after the shift from the start
abbrev pub shifted_timer : (per_second start : ℕ) → List Sent → Timer
shifted_timer per_second start (shift ∷ log) =
    armed_after start (counts_of (shift_by (reply_in shift.exchange)) per_second)
shifted_timer per_second start [] = Never

-- the log after that one
abbrev pub after_one : List Sent → List Sent
after_one (shift ∷ log) = log
after_one [] = []

-- the timer of a port before the first instant: by its description, or by the answers that stand first in the log
abbrev pub first_told_by : Role → (per_second start : ℕ) → List Sent → Timer
first_told_by (TimeClock Answered) per_second start log = told_timer per_second log
first_told_by (TimeClock Changing) per_second start log = shifted_timer per_second start log
first_told_by (TimeClock (Periodic interval shift)) per_second start log = Every interval shift
first_told_by (TimeClock Countdown) per_second start log = Never
first_told_by (Input feed) per_second start log = Never
first_told_by Output per_second start log = Never
first_told_by (ClockInput feed) per_second start log = Never
first_told_by ClockOutput per_second start log = Never

-- the log after the answers that are about the port
abbrev pub log_after : Role → List Sent → List Sent
log_after (TimeClock Answered) log = after_two log
log_after (TimeClock Changing) log = after_one log
log_after (TimeClock (Periodic interval shift)) log = log
log_after (TimeClock Countdown) log = log
log_after (Input feed) log = log
log_after Output log = log
log_after (ClockInput feed) log = log
log_after ClockOutput log = log

abbrev pub first_told_in : (per_second start : ℕ) → List Port → List Sent → List Timer
first_told_in per_second start [] log = []
first_told_in per_second start (port ∷ ports) log =
    first_told_by port.role per_second start log ∷
    first_told_in per_second start ports (log_after port.role log)

-- the timers of all ports by the answers of these Clocks
abbrev pub first_told : (per_second start : ℕ) → System → List Sent → List Timer
first_told per_second start system log = first_told_in per_second start system.ports log

-- by this log each such Clock was asked, which tells these timers; or a bad answer stopped it
abbrev pub FixesBy : System → (per_second start : ℕ) → List Timer → List Sent →
    Result (Unit {0}) BadAnswer → Type 0
FixesBy system per_second start timers log (Ok x) =
    IsAnswered (shapes_of system) (timing_calls system) log ×
    (timers ≡ first_told per_second start system log)
FixesBy system per_second start timers log (Err bad) =
    StopsAt (shapes_of system) (timing_calls system) bad log

pub record Fixes (system : System) (per_second start : ℕ) (timers : List Timer)
    (olds news : List Instance) (result : Result (Unit {0}) BadAnswer) : Type 0 where
  pub log : List Sent
  pub told : Told log olds news
  pub says : FixesBy system per_second start timers log result

-- where the instances are machines with the values of Initialization Mode, they stay, and these are the timers of the run
abbrev pub FixesForMachines : System → (per_second start : ℕ) → List Timer →
    List Instance → List Instance → Type 0
FixesForMachines system per_second start timers olds news =
    (r : Run) (values : List (Option ℤ)) → r.system ≡ system →
    r.plan.resolution ≡ per_second → r.plan.start ≡ start → AreMachines r →
    AreAt r (initialized r values) olds → AreAt r (initialized r values) news ×
    (timers ≡ first_timers r (initialized r values))

-- ---- countdown and changing Clocks, after an instant

-- a countdown Clock is asked for its interval, and a changing one where it ticks
abbrev pub asks_interval : Role → Port → Option ℤ → Option Call
asks_interval (TimeClock Countdown) port v = Some (C.GetInterval port.reference)
asks_interval (TimeClock Changing) port v =
    if is_active v then Some (C.GetInterval port.reference) else None
asks_interval (TimeClock (Periodic interval shift)) port v = None
asks_interval (TimeClock Answered) port v = None
asks_interval (Input feed) port v = None
asks_interval Output port v = None
asks_interval (ClockInput feed) port v = None
asks_interval ClockOutput port v = None

-- after an instant with these values each such Clock is asked for its interval; the values stay
abbrev pub intervals : List (Option ℤ) → Rules
intervals now = record {
  asks = λ p port c values. asks_interval port.role port (value now p);
  takes = λ p port values last reply. last;
}

-- the timer of a port after an instant: its tick takes the arming of a countdown Clock away, and then what its FMU answers arms it, leaves it or takes it away; a changing Clock that ticked is armed by what its FMU answers
abbrev pub timer_after : Role → (per_second t : ℕ) → Option ℤ → Option Reply → Timer → Timer
timer_after (TimeClock Countdown) per_second t v reply old =
    answered per_second t (interval_by reply) (if is_active v then Never else old)
timer_after (TimeClock Changing) per_second t v reply old =
    if is_active v then rearmed per_second t (interval_by reply) else old
timer_after (TimeClock (Periodic interval shift)) per_second t v reply old = old
timer_after (TimeClock Answered) per_second t v reply old = old
timer_after (Input feed) per_second t v reply old = old
timer_after Output per_second t v reply old = old
timer_after (ClockInput feed) per_second t v reply old = old
timer_after ClockOutput per_second t v reply old = old

abbrev pub timers_after_from : (per_second t : ℕ) → List (Option ℤ) → (ℕ → Option Reply) → ℕ →
    List Port → List Timer → List Timer
timers_after_from per_second t values replies p (port ∷ ports) (old ∷ olds) =
    timer_after port.role per_second t (value values p) (replies p) old ∷
    timers_after_from per_second t values replies (suc p) ports olds
timers_after_from per_second t values replies p [] olds = []
timers_after_from per_second t values replies p (port ∷ ports) [] = []

abbrev pub timers_after : (per_second t : ℕ) → System → List (Option ℤ) → (ℕ → Option Reply) →
    List Timer → List Timer
timers_after per_second t system values replies olds =
    timers_after_from per_second t values replies 0 system.ports olds

-- by this log the countdown and changing Clocks were asked after an instant at the point, with its values, and the timers went from these to those
pub record Rearms (system : System) (per_second t : ℕ) (values : List (Option ℤ))
    (olds news : List Timer) (log : List Sent) : Type 0 where
  pub explains : Explains system (intervals values) values (port_order system) values log
  pub timers_are : news ≡ timers_after per_second t system values explains.replies olds

-- a Clock is armed for the point
abbrev pub is_some_armed : ℕ → List Timer → Bool
is_some_armed t timers = list_any (is_armed_for t) timers

-- it is told whether a Clock is armed for the point; or a bad answer stopped it
abbrev pub RearmsBy : System → (per_second t : ℕ) → List (Option ℤ) → (before after : List Timer) →
    List Sent → Result Bool BadAnswer → Type 0
RearmsBy system per_second t values before after log (Ok armed) =
    Rearms system per_second t values before after log × (armed ≡ is_some_armed t after)
RearmsBy system per_second t values before after log (Err bad) =
    ExplainsUntil system (intervals values) values (port_order system) bad values log

pub record AsksIntervals (system : System) (per_second t : ℕ) (values : List (Option ℤ))
    (before after : List Timer) (olds news : List Instance)
    (result : Result Bool BadAnswer) : Type 0 where
  pub log : List Sent
  pub told : Told log olds news
  pub says : RearmsBy system per_second t values before after log result

abbrev pub is_time_clock : Role → Bool
is_time_clock (TimeClock timing) = true
is_time_clock (Input feed) = false
is_time_clock Output = false
is_time_clock (ClockInput feed) = false
is_time_clock ClockOutput = false

-- of the time-based Clocks those that are due at the point have ticked in the values
abbrev pub TellsTicks : System → Timetable → ℕ → List (Option ℤ) → Type 0
TellsTicks system table t values =
    (p : ℕ) (port : Port) → slice_get system.ports p ≡ Some port → is_time_clock port.role ≡ true →
    is_active (value values p) ≡ is_due_at table t p

-- where the instances are machines in the states of an instant with its values written, they stay, and the timers go on as in the run
abbrev pub RearmsForMachines : System → (per_second t : ℕ) → List (Option ℤ) →
    (before after : List Timer) → List Instance → List Instance → Type 0
RearmsForMachines system per_second t values before after olds news =
    (r : Run) (s : Situation) → r.system ≡ system → r.plan.resolution ≡ per_second → AreMachines r →
    IsSituation r s → s.t ≡ t → s.timers ≡ before →
    AreAt r (written r s values) olds → AreAt r (written r s values) news ×
    (after ≡ next_timers r s values)
