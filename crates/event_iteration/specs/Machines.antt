-- The instances of a run as told machines in their states.
use Rattle.std.specs.Prelude.{◌≡◌, ℕ, ℤ, List, Option, Some}
use Rattle.std.specs.List.{slice_get}
use Rattle.fmu_peer.specs.CloseAll.{Instance}
use Rattle.fmu_peer.specs.Machine.{Machine, MachineState}
use Rattle.system_model.specs.declared.system.Component.{Component}
use Rattle.system_model.specs.declared.system.System.{System}
use Rattle.run_model.specs.Run.{IsFmu, Run}
use Rattle.run_model.specs.Initial.{SolvesInitially, initialized, initializing}
use Rattle.run_model.specs.Machines.{AreMachines}

-- each instance tells the machine of its component, in its state
abbrev pub AreAt : Run → List MachineState → List Instance → Type 0
AreAt r states is =
    (i : ℕ) (c : Component) (m : Machine) (s : MachineState) → IsFmu r states i c m s →
    (x : Instance) × (slice_get is i ≡ Some x) × (x.view.fixed.machine ≡ Some m) ×
    (x.view.state ≡ Some s)

-- where the instances are machines in Initialization Mode, the values are its solution, and they have those written
abbrev pub SolvesForMachines : System → List (Option ℤ) → List Instance → List Instance → Type 0
SolvesForMachines system values olds news =
    (r : Run) → r.system ≡ system → AreMachines r → AreAt r (initializing r) olds →
    SolvesInitially r values × AreAt r (initialized r values) news
