-- The Sets before a step (FMI 3.0, 4.2.1: Step Mode): of an FMU without event mode each connected input that has a value is set to it, in component and port order.
use Rattle.std.specs.Prelude.{◌≡◌, ℕ, ℤ, true, List, Option, Some, None, if◌then◌else◌, length}
use Rattle.std.specs.List.{range_with_len}
use Rattle.std.specs.Option.{option_map}
use Rattle.fmi_calls.specs.declared.call.Call.{Call}
use Rattle.fmi_calls.specs.declared.call.Call.TheVariants as C
use Rattle.fmi_calls.specs.Permission.{none_marked}
use Rattle.fmi_calls.specs.declared.phase.InstanceState.TheVariants as P
use Rattle.fmu_peer.specs.CloseAll.{Instance}
use Rattle.fmu_peer.specs.View.{View}
use Rattle.system_model.specs.declared.system.Role.{Role}
use Rattle.system_model.specs.declared.system.Role.TheVariants.{Input, Output, ClockInput, ClockOutput, TimeClock}
use Rattle.system_model.specs.declared.system.Port.{Port}
use Rattle.system_model.specs.declared.system.System.{System}
use Rattle.fmu_peer.specs.Machine.{MachineState, after}
use Rattle.run_model.specs.Run.{Run, Situation, each}
use Rattle.system_model.specs.Values.{value}
use Rattle.run_model.specs.Stepping.{departing}
use Rattle.event_iteration.specs.Machines.{AreAt}
use Rattle.event_iteration.specs.Turns.{Rules}

-- the Set of a connected input to a value, if there is one
abbrev pub sets_to : Role → Port → Option ℤ → Option Call
sets_to (Input None) port v = None
sets_to (Input (Some feed)) port v = option_map (λ x. C.Set port.kind port.reference x) v
sets_to Output port v = None
sets_to (ClockInput feed) port v = None
sets_to ClockOutput port v = None
sets_to (TimeClock timing) port v = None

-- by the values of an instant; they stay
abbrev pub before_step : List (Option ℤ) → Rules
before_step now = record {
  asks =
      λ p port c values. if c.shape.has_event_mode then None
      else sets_to port.role port (value now p);
  takes = λ p port values last reply. last;
}

-- in Step Mode, and no input is set since the last step
pub record IsUnset (v : View) : Type 0 where
  pub state : v.phase.state ≡ P.Step
  pub unset : none_marked v.phase.marks ≡ true

-- all ports, by component and place
abbrev pub port_order : System → List ℕ
port_order system = range_with_len 0 (length system.ports)

-- those with event mode were sent EnterStep
abbrev pub entered_step : Run → Situation → List MachineState
entered_step r s =
    each r s.states (λ i c m state. if c.shape.has_event_mode
    then after m state C.EnterStep else state)

-- where the instances are machines in the states of a situation after these values, those with event mode after EnterStep, they come to those of its step's beginning
abbrev pub DepartsForMachines : System → List (Option ℤ) → List Instance → List Instance → Type 0
DepartsForMachines system values olds news =
    (r : Run) (s : Situation) → r.system ≡ system → s.before ≡ values →
    AreAt r (entered_step r s) olds → AreAt r (departing r s) news
