-- Where a run begins: from the first states of the FMUs to the first instant (FMI 3.0, 4.2.1: Instantiated, Initialization Mode).
use Rattle.std.specs.Prelude.{◌≡◌, ℕ, ℤ, Bool, false, ◌&&◌, ◌==◌, if◌then◌else◌, List, [], ◌∷◌, length, map, Option, Some, None, slice_index_or, unwrap_or}
use Rattle.std.specs.List.{list_any, slice_get}
use Rattle.clock_fraction.specs.Counts.{counts_of}
use Rattle.clock_fraction.specs.declared.fraction.Fraction.{Fraction}
use Rattle.fmi_calls.specs.declared.call.Call.{Call}
use Rattle.fmi_calls.specs.declared.call.Call.TheVariants as C
use Rattle.fmi_calls.specs.declared.call.Content.TheVariants as A
use Rattle.fmi_calls.specs.declared.call.Interval.{Interval}
use Rattle.fmi_calls.specs.declared.call.Interval.TheVariants.{NotYetKnown}
use Rattle.fmi_calls.specs.declared.call.Reply.{Reply}
use Rattle.fmi_calls.specs.declared.call.Reply.TheVariants as R
use Rattle.fmu_peer.specs.Machine.{MachineState, Machine, after}
use Rattle.fmu_peer.specs.Mode.{instantiate_of}
use Rattle.system_model.specs.declared.system.Role.{Role}
use Rattle.system_model.specs.declared.system.Role.TheVariants.{Input, Output, ClockInput, ClockOutput, TimeClock}
use Rattle.system_model.specs.declared.system.Timing.TheVariants.{Periodic, Answered, Countdown, Changing}
use Rattle.system_model.specs.declared.system.Component.{Component}
use Rattle.system_model.specs.declared.system.Port.{Port}
use Rattle.system_model.specs.declared.system.System.{System}
use Rattle.system_model.specs.declared.bound.BoundValue.{BoundValue}
use Rattle.system_model.specs.Needs.{is_unclocked, is_unclocked_at}
use Rattle.run_model.specs.Run.{Run, Situation, Timer, Never, Every, each, at_fmu}
use Rattle.system_model.specs.Values.{value}
use Rattle.run_model.specs.Inputs.{state_with}
use Rattle.run_model.specs.Equations.{shown, fed, is_lost}
use Rattle.run_model.specs.Timers.{armed_after, fixed}

-- ---- before Initialization Mode

abbrev pub first_states : Run → List MachineState
first_states r = map (λ (m : Machine). m.first) r.machines

-- each FMU was instantiated with the flags of its shape
abbrev pub instantiated : Run → List MachineState
instantiated r = each r (first_states r) (λ i c m s. after m s (instantiate_of r.plan.link c.shape))

abbrev pub set_call : BoundValue → Call
set_call b = C.Set b.kind b.reference b.value

-- each of these parameters was set
abbrev pub with_bound : Machine → List BoundValue → MachineState → MachineState
with_bound m [] s = s
with_bound m (b ∷ bs) s = with_bound m bs (after m s (set_call b))

-- the values that the parameters of the i-th component are bound to
abbrev pub bound_values : Run → ℕ → List BoundValue
bound_values r i = slice_index_or r.bound.components i []

-- its parameters were set
abbrev pub configured : Run → List MachineState
configured r = each r (instantiated r) (λ i c m s. with_bound m (bound_values r i) s)

abbrev pub enter_initialization : Run → Call
enter_initialization r = C.EnterInitialization r.plan.start r.plan.stop

-- it is in Initialization Mode
abbrev pub initializing : Run → List MachineState
initializing r = each r (configured r) (λ i c m s. after m s (enter_initialization r))

-- ---- the values of Initialization Mode

-- the port is an input that the output q feeds, and both are without Clocks
abbrev pub is_set_from : List Port → Role → Port → ℕ → Bool
is_set_from ports (Input (Some feed)) port q =
    is_unclocked port && is_unclocked_at ports feed.from.0 && (feed.from.0 == q)
is_set_from ports (Input None) port q = false
is_set_from ports Output port q = false
is_set_from ports (ClockInput feed) port q = false
is_set_from ports ClockOutput port q = false
is_set_from ports (TimeClock timing) port q = false

-- the output feeds such an input
abbrev pub is_read : List Port → ℕ → Bool
is_read ports q = list_any (λ (port : Port). is_set_from ports port.role port q) ports

-- the value of a port in Initialization Mode: an input without Clocks has what its path makes of its source's value, where the source has no Clocks, and the source has what its FMU shows with the values written
abbrev pub initial_value : Role → Run → List (Option ℤ) → ℕ → Port → Option ℤ
initial_value (Input None) r values p port = None
initial_value (Input (Some feed)) r values p port =
    if is_unclocked port && is_unclocked_at r.system.ports feed.from.0
    then fed port.kind feed values else None
initial_value Output r values p port =
    if is_read r.system.ports p
    then at_fmu r (initializing r) port.component.0 (λ c m s.
    shown m (state_with r.system.ports values port.component.0 m s) port)
    else None
initial_value (ClockInput feed) r values p port = None
initial_value ClockOutput r values p port = None
initial_value (TimeClock timing) r values p port = None

-- of a role
abbrev is_bad_input_initially : Role → System → List (Option ℤ) → Port → Bool
is_bad_input_initially (Input None) system values port = false
is_bad_input_initially (Input (Some feed)) system values port =
    is_unclocked port && is_unclocked_at system.ports feed.from.0 &&
    is_lost port.kind feed values
is_bad_input_initially Output system values port = false
is_bad_input_initially (ClockInput feed) system values port = false
is_bad_input_initially ClockOutput system values port = false
is_bad_input_initially (TimeClock timing) system values port = false

-- the port is such an input, and the value of its source is lost on its way
abbrev pub is_bad_initially : System → List (Option ℤ) → Port → Bool
is_bad_initially system values port = is_bad_input_initially port.role system values port

-- the values, one a port, solve the equations of Initialization Mode
pub record SolvesInitially (r : Run) (values : List (Option ℤ)) : Type 0 where
  pub places : length values ≡ length r.system.ports
  pub equations : (p : ℕ) (port : Port) → slice_get r.system.ports p ≡ Some port →
      value values p ≡ initial_value port.role r values p port

-- each FMU has the values written
abbrev pub initialized : Run → List (Option ℤ) → List MachineState
initialized r values = each r (initializing r) (λ i c m s. state_with r.system.ports values i m s)

-- ---- the timers

abbrev pub interval_in : Reply → Interval
interval_in (R.Done is_warning (A.GetInterval interval)) = interval
interval_in (R.Done is_warning content) = NotYetKnown
interval_in (R.Refused k status) = NotYetKnown

abbrev pub shift_in : Reply → Fraction
shift_in (R.Done is_warning (A.GetShift shift)) = shift
shift_in (R.Done is_warning content) = record { counter = 0; resolution = 0 }
shift_in (R.Refused k status) = record { counter = 0; resolution = 0 }

-- what a fixed Clock's FMU answers of it
abbrev pub asked_timer : Run → Port → Machine → MachineState → Timer
asked_timer r port m s =
    fixed r.plan.resolution (interval_in (m.look s (C.GetInterval port.reference)))
    (shift_in (m.look s (C.GetShift port.reference)))

-- a changing Clock is armed by the shift that its FMU answers
abbrev pub shifted_timer : Run → Port → Machine → MachineState → Timer
shifted_timer r port m s =
    armed_after r.plan.start
    (counts_of (shift_in (m.look s (C.GetShift port.reference))) r.plan.resolution)

-- no countdown Clock is armed at first
abbrev pub first_timer : Role → Run → List MachineState → Port → Timer
first_timer (TimeClock (Periodic interval shift)) r states port = Every interval shift
first_timer (TimeClock Answered) r states port =
    unwrap_or (at_fmu r states port.component.0 (λ c m s. Some (asked_timer r port m s))) Never
first_timer (TimeClock Changing) r states port =
    unwrap_or (at_fmu r states port.component.0 (λ c m s. Some (shifted_timer r port m s))) Never
first_timer (TimeClock Countdown) r states port = Never
first_timer (Input feed) r states port = Never
first_timer Output r states port = Never
first_timer (ClockInput feed) r states port = Never
first_timer ClockOutput r states port = Never

abbrev pub first_timers : Run → List MachineState → List Timer
first_timers r states = map (λ (port : Port). first_timer port.role r states port) r.system.ports

-- ---- the first instant

-- where the run begins, after these values of Initialization Mode: no component has an event time yet, and no port a value
abbrev pub beginning : Run → List (Option ℤ) → Situation
beginning r values = record {
  states = each r (initialized r values) (λ i c m s. after m s C.ExitInitialization);
  timers = first_timers r (initialized r values);
  events = map (λ (c : Component). None) r.system.components;
  t = r.plan.start;
  n = 0;
  before = map (λ (port : Port). None) r.system.ports;
}
