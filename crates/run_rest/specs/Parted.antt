-- A step in two parts: EnterStep, and what is done from Step Mode on (FMI 3.0, 4.2.1: Step Mode; fmi3DoStep). After the two a run stands as after the one step of `run_model`.
use Rattle.std.specs.Prelude.{◌≡◌, ℕ, ◌<◌, Bool, true, false, if◌then◌else◌, List}
use Rattle.std.specs.List.{list_any}
use Rattle.fmi_calls.specs.declared.call.Call.TheVariants as C
use Rattle.fmu_peer.specs.Machine.{MachineState, after}
use Rattle.system_model.specs.declared.plan.EndKind.TheVariants.{Stop, Asked, Fixed}
use Rattle.run_model.specs.Run.{Run, Situation, each}
use Rattle.run_model.specs.Inputs.{state_with}
use Rattle.run_model.specs.Steps.{IsBound, Stepper, Agree, StopsShort}
use Rattle.run_model.specs.Stepping.{Next, Ends, GoesOn, ending, is_terminating, kept_at, step_to}

-- ---- into Step Mode

-- the states once each FMU is in Step Mode: with event mode EnterStep was sent
abbrev pub entering_step : Run → Situation → List MachineState
entering_step r s =
    each r s.states (λ i c m state. if c.shape.has_event_mode then after m state C.EnterStep
    else state)

-- where the run stands there
abbrev pub at_step : Run → Situation → Situation
at_step r s = record s { states = entering_step r s }

-- ---- from Step Mode on

-- the states at the step's beginning: without event mode the inputs were set
abbrev pub ready : Run → Situation → List MachineState
ready r y =
    each r y.states (λ i c m state. if c.shape.has_event_mode then state
    else state_with r.system.ports y.before i m state)

-- the FMUs of a step from t, from these states
abbrev pub steppers_from : Run → ℕ → List MachineState → List Stepper
steppers_from r t states =
    each r states (λ i c m state.
    record { has_variable_steps = c.shape.has_variable_steps; end = ending t c m state })

-- where the run stands after it: each state is changed by its kept ask alone, and with event mode EnterEvent was sent
abbrev pub stepped_from : Run → Situation → List MachineState → List ℕ → ℕ → Situation
stepped_from r y states kept point = record {
  states = each r states (λ i c m state.
      let there : MachineState = after m state (step_to y.t (kept_at kept i)) in
      if c.shape.has_event_mode then after m there C.EnterEvent else there);
  timers = y.timers;
  events = y.events;
  t = point;
  n = 0;
  before = y.before;
}

-- whether a kept answer asks for the end
abbrev pub asks_from : Run → ℕ → List MachineState → List ℕ → Bool
asks_from r t states kept =
    list_any (λ b. b) (each r states (λ i c m state.
    is_terminating (m.look state (step_to t (kept_at kept i)))))

-- a step before the stop from these states: its bound, the asks that are kept, and the point that is reached
pub record IsStepFrom (r : Run) (y : Situation) (states : List MachineState) (kept : List ℕ)
    (point : ℕ) : Type 0 where
  pub before_stop : y.t < r.plan.stop
  pub bound : ℕ
  pub is_bound : IsBound r.plan y.timers y.events y.t bound
  pub agree : Agree (steppers_from r y.t states) y.t r.plan.step bound kept point

-- a step before the stop that isn't made: the i-th component would be asked to step to e, and can't
pub record LacksStepFrom (r : Run) (y : Situation) (states : List MachineState)
    (i e : ℕ) : Type 0 where
  pub before_stop : y.t < r.plan.stop
  pub bound : ℕ
  pub is_bound : IsBound r.plan y.timers y.events y.t bound
  pub stops : StopsShort (steppers_from r y.t states) y.t r.plan.step bound i e

-- what follows where a step begins from these states: the stop, the end that a kept answer asks for, the end where an FMU can't make the step, or the next instant
pub data DepartsFrom (r : Run) (y : Situation) (states : List MachineState) : Next → Type 0 where
  AtStop : (next : Next) → y.t ≡ r.plan.stop → next ≡ Ends Stop y.t → DepartsFrom r y states next
  WhereAsked : (next : Next) (kept : List ℕ) (point : ℕ) → IsStepFrom r y states kept point →
      asks_from r y.t states kept ≡ true → next ≡ Ends Asked point → DepartsFrom r y states next
  WhereFixed : (next : Next) (i e : ℕ) → LacksStepFrom r y states i e →
      next ≡ Ends Fixed y.t → DepartsFrom r y states next
  ByStep : (next : Next) (kept : List ℕ) (point : ℕ) → IsStepFrom r y states kept point →
      asks_from r y.t states kept ≡ false → next ≡ GoesOn (stepped_from r y states kept point) →
      DepartsFrom r y states next
