-- What follows an instant (FMI 3.0, 4.2.1: Event Mode, fmi3UpdateDiscreteStates; 2.2.9: fmi3GetIntervalFraction).
use Rattle.std.specs.Prelude.{ℕ, suc, ℤ, Bool, false, ◌&&◌, ◌||◌, ◌==◌, if◌then◌else◌, List, [], ◌∷◌, Option, Some, None, nat_lt, unwrap_or}
use Rattle.std.specs.List.{list_any}
use Rattle.fmi_calls.specs.declared.call.Call.TheVariants as C
use Rattle.fmi_calls.specs.declared.call.Content.TheVariants as A
use Rattle.fmi_calls.specs.declared.call.Interval.{Interval}
use Rattle.fmi_calls.specs.declared.call.Interval.TheVariants.{NotYetKnown}
use Rattle.fmi_calls.specs.declared.call.Reply.{Reply}
use Rattle.fmi_calls.specs.declared.call.Reply.TheVariants as R
use Rattle.fmu_peer.specs.Machine.{MachineState, after}
use Rattle.system_model.specs.declared.system.Role.{Role}
use Rattle.system_model.specs.declared.system.Role.TheVariants.{Input, Output, ClockInput, ClockOutput, TimeClock}
use Rattle.system_model.specs.declared.system.Timing.TheVariants.{Periodic, Answered, Countdown, Changing}
use Rattle.system_model.specs.declared.system.Port.{Port}
use Rattle.run_model.specs.Run.{Run, Situation, Timer, Never, each, at_fmu}
use Rattle.system_model.specs.Values.{value, is_active}
use Rattle.run_model.specs.Inputs.{state_with}
use Rattle.run_model.specs.Equations.{is_bad}
use Rattle.run_model.specs.Timers.{answered, is_armed_for, rearmed}
use Rattle.run_model.specs.Initial.{interval_in}

-- the states with the values of the instant written, where there is event mode
abbrev pub written : Run → Situation → List (Option ℤ) → List MachineState
written r s values =
    each r s.states (λ i c m state. if c.shape.has_event_mode
    then state_with r.system.ports values i m state else state)

-- ---- the timers

-- what a countdown or changing Clock's FMU answers of it
abbrev pub asked_interval : Run → Situation → List (Option ℤ) → Port → Interval
asked_interval r s values port =
    unwrap_or (at_fmu r (written r s values) port.component.0 (λ c m state.
    Some (interval_in (m.look state (C.GetInterval port.reference))))) NotYetKnown

-- a tick takes the arming away; then the FMU is asked, for a changing Clock only where it ticked
abbrev pub next_timer : Role → Run → Situation → List (Option ℤ) → ℕ → Port → Timer → Timer
next_timer (TimeClock Countdown) r s values p port old =
    answered r.plan.resolution s.t (asked_interval r s values port) (if is_active (value values p)
    then Never else old)
next_timer (TimeClock Changing) r s values p port old =
    if is_active (value values p)
    then rearmed r.plan.resolution s.t (asked_interval r s values port) else old
next_timer (TimeClock (Periodic interval shift)) r s values p port old = old
next_timer (TimeClock Answered) r s values p port old = old
next_timer (Input feed) r s values p port old = old
next_timer Output r s values p port old = old
next_timer (ClockInput feed) r s values p port old = old
next_timer ClockOutput r s values p port old = old

abbrev pub next_timers_from : Run → Situation → List (Option ℤ) → ℕ → List Port →
    List Timer → List Timer
next_timers_from r s values p (port ∷ ports) (old ∷ olds) =
    next_timer port.role r s values p port old ∷ next_timers_from r s values (suc p) ports olds
next_timers_from r s values p [] olds = []
next_timers_from r s values p (port ∷ ports) [] = []

abbrev pub next_timers : Run → Situation → List (Option ℤ) → List Timer
next_timers r s values = next_timers_from r s values 0 r.system.ports s.timers

-- ---- the updates

abbrev pub asks_for_end : Reply → Bool
asks_for_end (R.Done is_warning (A.Update again terminate event_time)) = terminate
asks_for_end (R.Done is_warning content) = false
asks_for_end (R.Refused k status) = false

abbrev pub asks_again : Reply → Bool
asks_again (R.Done is_warning (A.Update again terminate event_time)) = again
asks_again (R.Done is_warning content) = false
asks_again (R.Refused k status) = false

-- whether the answer of some FMU to its Update passes the test
abbrev pub any_update : (Reply → Bool) → Run → Situation → List (Option ℤ) → Bool
any_update test r s values =
    list_any (λ b. b) (each r (written r s values) (λ i c m state. c.shape.has_event_mode &&
    test (m.look state C.Update)))

-- an event time that is asked for at the point counts where it is after that
abbrev pub if_later : ℕ → Option ℕ → Option ℕ
if_later t None = None
if_later t (Some time) = if nat_lt t time then Some time else None

-- the event time that an Update's answer asks for
abbrev pub event_after : ℕ → Reply → Option ℕ
event_after t (R.Done is_warning (A.Update again terminate event_time)) = if_later t event_time
event_after t (R.Done is_warning content) = None
event_after t (R.Refused k status) = None

-- each Update takes the place of what its FMU asked for before
abbrev pub next_events : Run → Situation → List (Option ℤ) → List (Option ℕ)
next_events r s values =
    each r (written r s values) (λ i c m state. if c.shape.has_event_mode
    then event_after s.t (m.look state C.Update) else None)

-- where the run stands after the Updates, before the next instant at this point
abbrev pub updated : Run → Situation → List (Option ℤ) → Situation
updated r s values = record {
  states =
      each r (written r s values) (λ i c m state. if c.shape.has_event_mode
      then after m state C.Update else state);
  timers = next_timers r s values;
  events = next_events r s values;
  t = s.t;
  n = suc s.n;
  before = values;
}

-- ---- what follows

-- the value of a source is lost on its way to an input; an Update asks for the end; the instants at this point reach their limit; another instant follows here; or the point is done
pub data Following : Type 0 where
  OutOfRange : Following
  Ended : Following
  AtLimit : Following
  Again : Following
  Done : Following

-- an Update asks for another instant here, or a Clock is armed for this point
abbrev pub goes_again : Run → Situation → List (Option ℤ) → Bool
goes_again r s values =
    any_update asks_again r s values || list_any (is_armed_for s.t) (next_timers r s values)

abbrev pub following : Run → Situation → List (Option ℤ) → Following
following r s values =
    if list_any (is_bad values) r.system.ports then OutOfRange
    else (if any_update asks_for_end r s values then Ended
    else (if goes_again r s values
    then (if suc s.n == r.plan.limit then AtLimit else Again) else Done))
