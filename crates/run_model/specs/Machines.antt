-- The FMUs of a run as machines of their shapes (FMI 3.0, 2.4.9: dependencies of outputs; 4.2.1: Initialization Mode), and the situations that a run of them comes to.
use Rattle.std.specs.Prelude.{◌≡◌, ℕ, ℤ, Bool, false, List, length, Option, Some, IfSome}
use Rattle.std.specs.List.{slice_get}
use Rattle.value_types.specs.Values.{Fits}
use Rattle.value_types.specs.declared.shape.Shape.{Shape}
use Rattle.fmu_peer.specs.Machine.{MachineState, Machine, IsLawful, IsMachineOf}
use Rattle.system_model.specs.declared.system.Component.{Component}
use Rattle.system_model.specs.declared.system.Port.{Port}
use Rattle.system_model.specs.declared.system.System.{System}
use Rattle.run_model.specs.Run.{Run, Situation, IsFmu}
use Rattle.system_model.specs.Values.{value}

-- each component has a machine of its shape, whose outputs keep to the dependencies that they declare
pub record AreMachines (r : Run) : Type 0 where
  pub count : length r.machines ≡ length r.system.components
  pub each : (i : ℕ) (c : Component) (m : Machine) → slice_get r.system.components i ≡ Some c →
      slice_get r.machines i ≡ Some m → IsMachineOf c.shape m × IsLawful c.shape m

-- a state has a value for each variable of the shape, and is in Initialization Mode or not
pub record IsStateOf (shape : Shape) (initializing : Bool) (m : Machine)
    (s : MachineState) : Type 0 where
  pub values : length s.values ≡ length shape.variables
  pub mode : m.initializing s.numbers ≡ initializing

-- so is each state of the run's FMUs
abbrev pub AreStates : Run → Bool → List MachineState → Type 0
AreStates r initializing states =
    (i : ℕ) (c : Component) (m : Machine) (s : MachineState) → IsFmu r states i c m s →
    IsStateOf c.shape initializing m s

-- each value is one of its port's type
abbrev pub AreFitting : System → List (Option ℤ) → Type 0
AreFitting system values =
    (p : ℕ) (port : Port) → slice_get system.ports p ≡ Some port →
    IfSome (value values p) (Fits port.kind)

-- before an instant: for each component a state, out of Initialization Mode, and an event time or none, and for each port a timer and a value of its type or none
pub record IsSituation (r : Run) (s : Situation) : Type 0 where
  pub states : length s.states ≡ length r.system.components
  pub timers : length s.timers ≡ length r.system.ports
  pub events : length s.events ≡ length r.system.components
  pub before : length s.before ≡ length r.system.ports
  pub shapes : AreStates r false s.states
  pub types : AreFitting r.system s.before
