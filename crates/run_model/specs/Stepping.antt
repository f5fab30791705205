-- The step from a point to the next, and where a run ends without one (FMI 3.0, 4.2.1: Step Mode, Event Mode; fmi3DoStep).
use Rattle.std.specs.Prelude.{◌≡◌, ℕ, ◌-◌, ◌<◌, ◌==◌, Bool, true, false, if◌then◌else◌, List, map, slice_index_or}
use Rattle.std.specs.List.{list_any, slice_get}
use Rattle.std.specs.Option.{option_map_or}
use Rattle.value_types.specs.declared.shape.Shape.{Shape}
use Rattle.fmi_calls.specs.declared.call.Call.{Call}
use Rattle.fmi_calls.specs.declared.call.Call.TheVariants as C
use Rattle.fmi_calls.specs.declared.call.Content.TheVariants as A
use Rattle.fmi_calls.specs.declared.call.Reply.{Reply}
use Rattle.fmi_calls.specs.declared.call.Reply.TheVariants as R
use Rattle.fmi_calls.specs.Next.{end_of}
use Rattle.fmu_peer.specs.Machine.{MachineState, Machine, after}
use Rattle.system_model.specs.EarlyReturn.{early_count}
use Rattle.system_model.specs.declared.plan.EndKind.{EndKind}
use Rattle.system_model.specs.declared.plan.EndKind.TheVariants.{Stop, Asked, Fixed}
use Rattle.system_model.specs.declared.system.Component.{Component}
use Rattle.run_model.specs.Run.{Run, Situation, each}
use Rattle.run_model.specs.Inputs.{state_with}
use Rattle.run_model.specs.Steps.{IsBound, Stepper, Agree, StopsShort}

-- ---- before and after the step

-- the states at a step's beginning: with event mode EnterStep was sent, without it the inputs were set
abbrev pub departing : Run → Situation → List MachineState
departing r s =
    each r s.states (λ i c m state. if c.shape.has_event_mode then after m state C.EnterStep
    else state_with r.system.ports s.before i m state)

abbrev pub step_to : ℕ → ℕ → Call
step_to t e = C.DoStep t (e - t)

-- where a machine ends that is asked to step from t to a point
abbrev pub end_in : Machine → MachineState → ℕ → ℕ → ℕ
end_in m s t e = end_of (m.look s (step_to t e)) t

-- where an FMU does: one that may not return early ends at the point
abbrev pub ending : ℕ → Component → Machine → MachineState → ℕ → ℕ
ending t c m s e = if c.shape.might_return_early then end_in m s t e else e

-- the FMUs at a step's beginning
abbrev pub steppers : Run → Situation → List Stepper
steppers r s =
    each r (departing r s) (λ i c m state.
    record { has_variable_steps = c.shape.has_variable_steps; end = ending s.t c m state })

-- whether an FMU of this shape is asked for the bound first, of this many that might return early: where one alone might, it is alone, and else each is
abbrev pub asked_first : ℕ → Shape → Bool
asked_first early shape = if early == 1 then shape.might_return_early else true

-- whether the i-th FMU is
abbrev pub is_asked_first : Run → ℕ → Bool
is_asked_first r i =
    option_map_or (λ (c : Component).
    asked_first (early_count (map (λ (d : Component). d.shape) r.system.components)) c.shape)
    (slice_get r.system.components i) false

-- the ask that the i-th FMU keeps
abbrev pub kept_at : List ℕ → ℕ → ℕ
kept_at kept i = slice_index_or kept i 0

-- where the run stands after the step: each state is changed by its kept ask alone, and with event mode EnterEvent was sent
abbrev pub stepped : Run → Situation → List ℕ → ℕ → Situation
stepped r s kept point = record {
  states = each r (departing r s) (λ i c m state.
      let there : MachineState = after m state (step_to s.t (kept_at kept i)) in
      if c.shape.has_event_mode then after m there C.EnterEvent else there);
  timers = s.timers;
  events = s.events;
  t = point;
  n = 0;
  before = s.before;
}

abbrev pub is_terminating : Reply → Bool
is_terminating (R.Done is_warning (A.DoStep event_needed terminate early end)) = terminate
is_terminating (R.Done is_warning content) = false
is_terminating (R.Refused k status) = false

-- whether a kept answer asks for the end
abbrev pub asks_to_end : Run → Situation → List ℕ → Bool
asks_to_end r s kept =
    list_any (λ b. b) (each r (departing r s) (λ i c m state.
    is_terminating (m.look state (step_to s.t (kept_at kept i)))))

-- ---- the step

-- a step before the stop: its bound, the asks that are kept, and the point that is reached
pub record IsStep (r : Run) (s : Situation) (kept : List ℕ) (point : ℕ) : Type 0 where
  pub before_stop : s.t < r.plan.stop
  pub bound : ℕ
  pub is_bound : IsBound r.plan s.timers s.events s.t bound
  pub agree : Agree (steppers r s) s.t r.plan.step bound kept point

-- a step before the stop that isn't made: the i-th component would be asked to step to e, and can't
pub record LacksStep (r : Run) (s : Situation) (i e : ℕ) : Type 0 where
  pub before_stop : s.t < r.plan.stop
  pub bound : ℕ
  pub is_bound : IsBound r.plan s.timers s.events s.t bound
  pub stops : StopsShort (steppers r s) s.t r.plan.step bound i e

-- what follows: the run ends, in this way and at this point, after the instant or before it, or goes on from a situation
pub data Next : Type 0 where
  Ends : (kind : EndKind) (point : ℕ) → Next
  EndsBefore : (kind : EndKind) (point : ℕ) → Next
  GoesOn : (s : Situation) → Next

-- where a point is done: at the stop the run ends, and so it does at the reached point where a kept answer asks for it, and where a step begins that an FMU can't make
pub data Departs (r : Run) (s : Situation) : Next → Type 0 where
  AtStop : (next : Next) → s.t ≡ r.plan.stop → next ≡ Ends Stop s.t → Departs r s next
  WhereAsked : (next : Next) (kept : List ℕ) (point : ℕ) → IsStep r s kept point →
      asks_to_end r s kept ≡ true → next ≡ Ends Asked point → Departs r s next
  WhereFixed : (next : Next) (i e : ℕ) → LacksStep r s i e →
      next ≡ Ends Fixed s.t → Departs r s next
  ByStep : (next : Next) (kept : List ℕ) (point : ℕ) → IsStep r s kept point →
      asks_to_end r s kept ≡ false → next ≡ GoesOn (stepped r s kept point) → Departs r s next
