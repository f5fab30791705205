-- The equations that the values of an instant solve (FMI 3.0, 2.1.5: super-dense time; SSP 1.0: connections).
use Rattle.std.specs.Prelude.{◌≡◌, ◌⊎◌, ℕ, ℤ, pos, ◌==◌, if◌then◌else◌, List, length, Bool, false, not, ◌&&◌, is_some, Option, Some, None, slice_index_or}
use Rattle.std.specs.List.{slice_get}
use Rattle.value_types.specs.Values.{word_value}
use Rattle.value_types.specs.declared.values.PortType.{PortType}
use Rattle.fmi_calls.specs.declared.call.Call.TheVariants as C
use Rattle.fmi_calls.specs.declared.call.Content.TheVariants as A
use Rattle.fmi_calls.specs.declared.call.Reply.{Reply}
use Rattle.fmi_calls.specs.declared.call.Reply.TheVariants as R
use Rattle.fmu_peer.specs.Machine.{MachineState, Machine}
use Rattle.system_model.specs.declared.system.Component.{Component}
pub use Rattle.system_model.specs.Carried.{fed, source_value}
use Rattle.system_model.specs.declared.system.Feed.{Feed}
use Rattle.system_model.specs.declared.system.Role.{Role}
use Rattle.system_model.specs.declared.system.Role.TheVariants.{Input, Output, ClockInput, ClockOutput, TimeClock}
use Rattle.system_model.specs.declared.system.Port.{Port}
use Rattle.run_model.specs.Run.{Run, Situation, Timer, Never, at_fmu}
use Rattle.system_model.specs.Values.{value, is_present}
use Rattle.run_model.specs.Inputs.{state_with}
use Rattle.run_model.specs.Timers.{IsDue}

-- ---- what an FMU shows

-- the value that a reply carries, where it is a word of the type
abbrev pub value_in : PortType → Reply → Option ℤ
value_in kind (R.Done is_warning (A.Get word)) = word_value kind word
value_in kind (R.Done is_warning (A.GetClock word)) = word_value kind word
value_in kind (R.Done is_warning content) = None
value_in kind (R.Refused k status) = None

-- the value that an output shows in a state
abbrev pub shown : Machine → MachineState → Port → Option ℤ
shown m s port = value_in port.kind (m.look s (C.Get port.kind port.reference))

-- whether a Clock that is an output is active in a state
abbrev pub ticking : Machine → MachineState → Port → Option ℤ
ticking m s port = value_in port.kind (m.look s (C.GetClock port.reference))

-- ---- the equations

-- the source has a value, and its path makes none of it that the input takes
abbrev pub is_lost : PortType → Feed → List (Option ℤ) → Bool
is_lost kind feed values =
    is_some (source_value feed values) && not (is_some (fed kind feed values))

-- of a role
abbrev is_bad_input : Role → List (Option ℤ) → Port → Bool
is_bad_input (Input None) values port = false
is_bad_input (Input (Some feed)) values port =
    is_present port values && is_lost port.kind feed values
is_bad_input Output values port = false
is_bad_input (ClockInput feed) values port = false
is_bad_input ClockOutput values port = false
is_bad_input (TimeClock timing) values port = false

-- the port is a connected input that is present, and the value of its source is lost on its way
abbrev pub is_bad : List (Option ℤ) → Port → Bool
is_bad values port = is_bad_input port.role values port

-- with event mode an output that is present is what the state shows with the values written; without event mode it is what the state shows in the first instant of a point; else it keeps its value
abbrev pub output_value : Run → Situation → List (Option ℤ) → Option ℤ → Port → Component →
    Machine → MachineState → Option ℤ
output_value r s values last port c m state =
    if c.shape.has_event_mode
    then (if is_present port values
    then shown m (state_with r.system.ports values port.component.0 m state) port else last)
    else (if s.n == 0 then shown m state port else last)

-- a Clock's value: 1 where it ticks, and 0 where it doesn't
abbrev pub IsTickValue : Type 0 → Option ℤ → Type 0
IsTickValue Ticks v = (Ticks × (v ≡ Some (pos 1))) ⊎ ((Ticks → ⊥) × (v ≡ Some (pos 0)))

abbrev pub timer_of : List Timer → ℕ → Timer
timer_of timers p = slice_index_or timers p Never

-- the value v of the port p solves its equation; last is its value in the instant before
abbrev pub SolvesAt : Role → Run → Situation → List (Option ℤ) → ℕ → Port →
    Option ℤ → Option ℤ → Type 0
SolvesAt (Input None) r s values p port last v = v ≡ None
SolvesAt (Input (Some feed)) r s values p port last v =
    v ≡ (if is_present port values then fed port.kind feed values else last)
SolvesAt Output r s values p port last v =
    v ≡ at_fmu r s.states port.component.0 (output_value r s values last port)
SolvesAt (ClockInput None) r s values p port last v = v ≡ Some (pos 0)
SolvesAt (ClockInput (Some feed)) r s values p port last v = v ≡ source_value feed values
SolvesAt ClockOutput r s values p port last v =
    v ≡ at_fmu r s.states port.component.0 (λ c m state.
    ticking m (state_with r.system.ports values port.component.0 m state) port)
SolvesAt (TimeClock timing) r s values p port last v =
    IsTickValue (IsDue r.plan.start (timer_of s.timers p) s.t s.n) v

-- the values, one a port, solve the equations of the instant
pub record Solves (r : Run) (s : Situation) (values : List (Option ℤ)) : Type 0 where
  pub places : length values ≡ length r.system.ports
  pub equations : (p : ℕ) (port : Port) → slice_get r.system.ports p ≡ Some port →
      SolvesAt port.role r s values p port (value s.before p) (value values p)
