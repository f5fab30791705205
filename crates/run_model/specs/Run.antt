-- A run, and where it stands (FMI 3.0, 2.1.5: super-dense time).
use Rattle.std.specs.Prelude.{◌≡◌, ℕ, suc, ℤ, List, [], ◌∷◌, Option, Some, option_and_then}
use Rattle.std.specs.List.{slice_get}
use Rattle.fmu_peer.specs.Machine.{MachineState, Machine}
use Rattle.system_model.specs.declared.system.Component.{Component}
use Rattle.system_model.specs.declared.system.System.{System}
use Rattle.system_model.specs.declared.bound.Bound.{Bound}
use Rattle.system_model.specs.declared.plan.Plan.{Plan}

-- a system, the values of its parameters, the machine of each component, and a plan
pub record Run : Type 0 where
  pub system : System
  pub bound : Bound
  pub machines : List Machine
  pub plan : Plan

-- when a time-based Clock ticks, as far as it is known: never; at an interval, first at a shift from the start; or once, at the point that it is armed for
pub data Timer : Type 0 where
  Never : Timer
  Every : (interval shift : ℕ) → Timer
  Once : (point : ℕ) → Timer

-- where a run stands before an instant: the state of each component, the timer of each port, the event time that each component asked for, if any, the point and the number of the instant there, and the values of the instant before
pub record Situation : Type 0 where
  pub states : List MachineState
  pub timers : List Timer
  pub events : List (Option ℕ)
  pub t : ℕ
  pub n : ℕ
  pub before : List (Option ℤ)

-- ---- the FMUs of a run: components, machines and states side by side

abbrev pub each_from : {X : Type 0} → (ℕ → Component → Machine → MachineState → X) → ℕ →
    List Component → List Machine → List MachineState → List X
each_from f i (c ∷ cs) (m ∷ ms) (s ∷ ss) = f i c m s ∷ each_from f (suc i) cs ms ss
each_from f i [] ms ss = []
each_from f i (c ∷ cs) [] ss = []
each_from f i (c ∷ cs) (m ∷ ms) [] = []

-- what this gives for each FMU, by its number, component, machine and state
abbrev pub each : {X : Type 0} → Run → List MachineState →
    (ℕ → Component → Machine → MachineState → X) → List X
each r states f = each_from f 0 r.system.components r.machines states

-- what this gives for the i-th FMU
abbrev pub at_fmu : {X : Type 0} → Run → List MachineState → ℕ →
    (Component → Machine → MachineState → Option X) → Option X
at_fmu r states i f =
    option_and_then (λ c. option_and_then (λ m. option_and_then (λ s. f c m s) (slice_get states i))
    (slice_get r.machines i)) (slice_get r.system.components i)

-- the i-th FMU has this component, this machine and this state
pub record IsFmu (r : Run) (states : List MachineState) (i : ℕ) (c : Component) (m : Machine)
    (s : MachineState) : Type 0 where
  pub component : slice_get r.system.components i ≡ Some c
  pub machine : slice_get r.machines i ≡ Some m
  pub state : slice_get states i ≡ Some s
