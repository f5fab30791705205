-- The Updates after an instant (FMI 3.0, 4.2.1: Event Mode, fmi3UpdateDiscreteStates): each FMU with event mode is asked for what follows, and may name a next event time.
use Rattle.std.specs.Prelude.{◌≡◌, ℕ, ◌<◌, ℤ, Bool, false, if◌then◌else◌, List, [], ◌∷◌, All, Option, None, IfSome, Result, Ok, Err, OnOk}
use Rattle.std.specs.List.{list_any}
use Rattle.value_types.specs.declared.shape.Shape.{Shape}
use Rattle.fmi_calls.specs.declared.call.Call.TheVariants as C
use Rattle.fmi_calls.specs.declared.call.Reply.{Reply}
use Rattle.fmu_peer.specs.declared.peer.PeerFault.{PeerFault}
use Rattle.fmu_peer.specs.CloseAll.{Instance}
use Rattle.system_model.specs.declared.system.System.{System}
use Rattle.tick_schedule.specs.Timetable.{Timetable}
use Rattle.run_model.specs.AfterInstant.{any_update, asks_again, asks_for_end, event_after, next_events, updated, written}
use Rattle.run_model.specs.Machines.{AreMachines, IsSituation}
use Rattle.run_model.specs.Run.{Run, Situation}
use Rattle.slot_calls.specs.declared.bad_answer.BadAnswer.{BadAnswer}
use Rattle.slot_calls.specs.Log.{ComponentCall, Sent}
use Rattle.slot_calls.specs.Stage.{Stage, has_events, shapes, to_those}
use Rattle.event_iteration.specs.declared.updates.Updated.{Updated}
use Rattle.event_iteration.specs.Machines.{AreAt}

-- each FMU with event mode, in their order
abbrev pub updating : List Shape → List ComponentCall
updating shapes = to_those has_events (λ (shape : Shape). C.Update) shapes

abbrev pub answer_passes : (Reply → Bool) → Result Reply PeerFault → Bool
answer_passes test (Ok reply) = test reply
answer_passes test (Err fault) = false

-- one of the answers passes the test
abbrev pub any_answer : (Reply → Bool) → List Sent → Bool
any_answer test log = list_any (λ (s : Sent). answer_passes test s.exchange.result) log

-- whether one of the answers asks for another instant, and whether one asks for the end
abbrev pub updated_by : List Sent → Updated
updated_by log = record { again = any_answer asks_again log; asked = any_answer asks_for_end log }

-- ---- event times

-- the event time that an answer at the point asks for
abbrev pub event_by : ℕ → Result Reply PeerFault → Option ℕ
event_by t (Ok reply) = event_after t reply
event_by t (Err fault) = None

-- that of the answer that stands first
abbrev pub first_event : ℕ → List Sent → Option ℕ
first_event t [] = None
first_event t (s ∷ log) = event_by t s.exchange.result

abbrev pub other_answers : List Sent → List Sent
other_answers [] = []
other_answers (s ∷ log) = log

-- that of each FMU: one without event mode asks for none
abbrev pub events_told : ℕ → List Shape → List Sent → List (Option ℕ)
events_told t [] log = []
events_told t (shape ∷ shapes) log =
    if has_events shape then first_event t log ∷ events_told t shapes (other_answers log)
    else None ∷ events_told t shapes log

-- what is asked for is after the point
abbrev pub AreLater : ℕ → List (Option ℕ) → Type 0
AreLater t events = All (λ (e : Option ℕ). IfSome e (λ time. t < time)) events

-- the schedule with these event times
abbrev pub with_events : Timetable → List (Option ℕ) → Timetable
with_events table events = record table { events = events }

-- the Updates were sent at the point, and these are the event times that the answers ask for
pub record Updates (t : ℕ) (events : List (Option ℕ)) (olds news : List Instance)
    (result : Result Updated BadAnswer) : Type 0 where
  pub stage : Stage (updating (shapes olds)) updated_by olds news result
  pub events_are : OnOk result (events ≡ events_told t (shapes olds) stage.log)

-- where the instances are machines in the states of an instant at the point with its values written, they come to those after it, and what is told is what their answers say
abbrev pub LeadsForMachines : System → ℕ → List (Option ℕ) → List Instance → List Instance →
    Result Updated BadAnswer → Type 0
LeadsForMachines system t events olds news (Err bad) = Unit {0}
LeadsForMachines system t events olds news (Ok u) =
    (r : Run) (s : Situation) (values : List (Option ℤ)) → r.system ≡ system → AreMachines r →
    IsSituation r s → s.t ≡ t → AreAt r (written r s values) olds →
    AreAt r (updated r s values).states news × (u.again ≡ any_update asks_again r s values) ×
    (u.asked ≡ any_update asks_for_end r s values) × (events ≡ next_events r s values)
