-- The calls of a run, in their order, and the steps between its points (FMI 3.0, 4.2.1: the calling sequence of Co-Simulation).
use Rattle.std.specs.Prelude.{◌≡◌, ℕ, ◌+◌, ◌-◌, ◌<◌, ◌==◌, not, if◌then◌else◌, List, [], ◌∷◌, ◌++◌, map, Option, None, position}
use Rattle.value_types.specs.declared.shape.Shape.{Shape}
use Rattle.fmi_calls.specs.declared.call.Call.TheVariants as C
use Rattle.fmu_peer.specs.Mode.{instantiate_of}
use Rattle.system_model.specs.declared.bound.Bound.{Bound}
use Rattle.system_model.specs.declared.bound.BoundValue.{BoundValue}
use Rattle.system_model.specs.declared.plan.Plan.{Plan}
use Rattle.system_model.specs.declared.system.Component.{Component}
use Rattle.system_model.specs.declared.system.System.{System}
use Rattle.run_model.specs.Initial.{set_call}
use Rattle.run_model.specs.Run.{Timer}
use Rattle.run_model.specs.Steps.{IsBound}
use Rattle.slot_calls.specs.Log.{ComponentCall}
use Rattle.slot_calls.specs.Stage.{has_events, shapes_of, to_each, to_those}
use Rattle.rollback.specs.StepsBy.{to_saved}

-- ---- the calls, in their order

-- the Sets of one component's bound parameters
abbrev pub sets_of : ℕ → List BoundValue → List ComponentCall
sets_of i values = map (λ (b : BoundValue). record { component = i; call = set_call b }) values

-- those of the components from the i-th on
abbrev pub binding_from : ℕ → List (List BoundValue) → List ComponentCall
binding_from i [] = []
binding_from i (values ∷ lists) = sets_of i values ++ binding_from (i + 1) lists

-- each bound parameter is set, component by component
abbrev pub binding : Bound → List ComponentCall
binding bound = binding_from 0 bound.components

-- each instance is made, over links of this version
abbrev pub making : ℕ → System → List ComponentCall
making link system = to_each (instantiate_of link) (shapes_of system)

-- each enters Initialization Mode, between the start and the stop of the plan
abbrev pub entering : System → Plan → List ComponentCall
entering system plan =
    to_each (λ (shape : Shape). C.EnterInitialization plan.start plan.stop) (shapes_of system)

-- and leaves it
abbrev pub leaving : System → List ComponentCall
leaving system = to_each (λ (shape : Shape). C.ExitInitialization) (shapes_of system)

-- those with event mode leave Event Mode before a step, and enter it after one
abbrev pub entering_step : System → List ComponentCall
entering_step system = to_those has_events (λ (shape : Shape). C.EnterStep) (shapes_of system)

abbrev pub entering_event : System → List ComponentCall
entering_event system = to_those has_events (λ (shape : Shape). C.EnterEvent) (shapes_of system)

-- in a step the states of all are saved where two or more might return early, and freed after it
abbrev pub saving : System → List ComponentCall
saving system = to_saved C.Save (shapes_of system)

abbrev pub freeing : System → List ComponentCall
freeing system = to_saved C.Free (shapes_of system)

-- where a run is held each state is saved, put as bytes and freed, one component after another
abbrev pub keeping_from : ℕ → List Shape → List ComponentCall
keeping_from i [] = []
keeping_from i (shape ∷ shapes) =
    record { component = i; call = C.Save } ∷ record { component = i; call = C.Serialize } ∷
    record { component = i; call = C.Free } ∷ keeping_from (i + 1) shapes

abbrev pub keeping : System → List ComponentCall
keeping system = keeping_from 0 (shapes_of system)

-- where it is resumed at a point each state is taken in, gone back to and freed, one component after another; the states have these lengths
abbrev pub restoring_from : ℕ → (point stop : ℕ) → List ℕ → List ComponentCall
restoring_from i point stop [] = []
restoring_from i point stop (size ∷ sizes) =
    record { component = i; call = C.Deserialize size point stop } ∷
    record { component = i; call = C.Restore } ∷ record { component = i; call = C.Free } ∷
    restoring_from (i + 1) point stop sizes

abbrev pub restoring : (point stop : ℕ) → List ℕ → List ComponentCall
restoring point stop sizes = restoring_from 0 point stop sizes

-- ---- steps

-- the least component that takes no step of this size: without variable steps an FMU takes that of the plan alone
abbrev pub first_unfit : System → Plan → ℕ → Option ℕ
first_unfit system plan size =
    if size == plan.step then None
    else position (λ (c : Component). not c.shape.has_variable_steps) system.components

-- a step before the stop goes from one point to at most its bound, the next grid point, tick, event time or the stop
pub record IsBoundOf (plan : Plan) (timers : List Timer) (events : List (Option ℕ))
    (from to : ℕ) : Type 0 where
  pub before_stop : from < plan.stop
  pub bound : IsBound plan timers events from to

-- and each takes a step to the bound
pub record IsStep (system : System) (plan : Plan) (timers : List Timer) (events : List (Option ℕ))
    (from to : ℕ) : Type 0 where
  pub bound : IsBoundOf plan timers events from to
  pub fit : first_unfit system plan (to - from) ≡ None
