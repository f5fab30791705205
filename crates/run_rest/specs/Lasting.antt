-- What lasts of an FMU's state along a run (FMI 3.0, 4.2.1: the states of Co-Simulation).
use Rattle.std.specs.Prelude.{◌≡◌, ℕ, ◌+◌, ◌-◌, ◌≤◌, ℤ, Bool, true, List, Option, Some}
use Rattle.std.specs.List.{slice_get}
use Rattle.fmi_calls.specs.declared.call.Call.TheVariants as C
use Rattle.fmu_peer.specs.Machine.{MachineState, Machine, after}
use Rattle.fmu_peer.specs.Mode.{instantiate_of}
use Rattle.system_model.specs.declared.system.Component.{Component}
use Rattle.run_model.specs.Behaved.{Departed}
use Rattle.run_model.specs.Run.{Run, Situation}
use Rattle.run_model.specs.Stepping.{IsStep, kept_at}
use Rattle.run_model.specs.Initial.{bound_values, enter_initialization, with_bound}
use Rattle.run_model.specs.Inputs.{state_with}
use Rattle.run_model.specs.Machines.{AreFitting}

-- each step asks the FMUs for points up to the stop
abbrev pub AsksWithin : Run → Type 0
AsksWithin r = (z : Situation) (kept : List ℕ) (point i : ℕ) → Departed r z →
    IsStep r z kept point → z.t + (kept_at kept i - z.t) ≤ r.plan.stop

-- the change keeps what passes the test
abbrev pub Keeps : (MachineState → Bool) → (MachineState → MachineState) → Type 0
Keeps test change = (s : MachineState) → test s ≡ true → test (change s) ≡ true

-- the first state of the i-th FMU passes a test for the time up to the end of Initialization Mode, and each change that a run makes there keeps that: its parameters, its calls, and writing values that are of their ports' types. ExitInitialization makes of it a state that passes the test for the time from there on, and so do the changes that a run makes then, with steps up to the stop
pub record LastsAlong (r : Run) (i : ℕ) (c : Component) (m : Machine)
    (early test : MachineState → Bool) : Type 0 where
  pub first : early m.first ≡ true
  pub instantiate : Keeps early (λ s. after m s (instantiate_of r.plan.link c.shape))
  pub parameters : Keeps early (with_bound m (bound_values r i))
  pub enters : Keeps early (λ s. after m s (enter_initialization r))
  pub writes_first : (values : List (Option ℤ)) → AreFitting r.system values →
      Keeps early (state_with r.system.ports values i m)
  pub exits : (s : MachineState) → early s ≡ true → test (after m s C.ExitInitialization) ≡ true
  pub updates : Keeps test (λ s. after m s C.Update)
  pub enters_step : Keeps test (λ s. after m s C.EnterStep)
  pub enters_event : Keeps test (λ s. after m s C.EnterEvent)
  pub steps : (t size : ℕ) → t + size ≤ r.plan.stop →
      Keeps test (λ s. after m s (C.DoStep t size))
  pub writes : (values : List (Option ℤ)) → AreFitting r.system values →
      Keeps test (state_with r.system.ports values i m)

-- so it is with the i-th FMU's component and machine
abbrev pub LastsAt : Run → ℕ → (MachineState → Bool) → (MachineState → Bool) → Type 0
LastsAt r i early test = (c : Component) (m : Machine) → slice_get r.system.components i ≡ Some c →
    slice_get r.machines i ≡ Some m → LastsAlong r i c m early test
