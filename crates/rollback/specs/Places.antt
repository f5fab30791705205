-- Where the FMUs of slots stand, which of them are selected, and what a turn sends to them.
use Rattle.std.specs.Prelude.{◌≡◌, ℕ, ◌-◌, ◌<◌, ◌==◌, ◌&&◌, Bool, true, false, not, if◌then◌else◌, List, [], ◌∷◌, length, map, slice_index_or, Option, Some, None, Result, Ok, Err}
use Rattle.fmi_calls.specs.declared.call.Call.{Call}
use Rattle.fmi_calls.specs.declared.call.Call.TheVariants as C
use Rattle.fmu_peer.specs.declared.job.Job.{Job}
use Rattle.fmu_peer.specs.declared.job.Job.TheVariants as J
use Rattle.fmu_peer.specs.declared.peer.Exchange.{Exchange}
use Rattle.fmu_peer.specs.declared.slot.Slot.{Slot}
use Rattle.fmu_peer.specs.CloseAll.{instance_in, peer_in}
use Rattle.fmu_peer.specs.Talk.{IsGood}
use Rattle.fmu_peer.specs.View.{View}
use Rattle.slot_calls.specs.Carried.{asks_to_end}
use Rattle.slot_calls.specs.Log.{Has, Sent, Told, part}
use Rattle.slot_calls.specs.Slots.{IsLive, instances}
use Rattle.slot_calls.specs.Stage.{shapes}
use Rattle.slot_calls.specs.declared.bad_answer.BadAnswer.{BadAnswer}
use Rattle.parallel_step.specs.Lifted.{AllSent}
use Rattle.parallel_step.specs.Round.{CanWork}
use Rattle.step_agreement.specs.Agreement.{Stand, ends_elsewhere, is_elsewhere, to_some}
use Rattle.step_agreement.specs.Saving.{is_saved}
use Rattle.rollback.specs.declared.asking.Turn.{Turn}
use Rattle.rollback.specs.declared.asking.Turn.TheVariants as T
use Rattle.rollback.specs.declared.places.Who.{Who}
use Rattle.rollback.specs.declared.places.Who.TheVariants as W

abbrev pub stand_in : {L : Type 0} {g : _} → (L → View) → Slot L g → Stand
stand_in view slot = record {
  shape = (view (peer_in slot.held)).fixed.shape;
  point = (view (peer_in slot.held)).phase.point;
  ask = 0;
}

abbrev pub stands : {L : Type 0} {g : _} → (L → View) → List (Slot L g) → List Stand
stands view slots = map (λ s. stand_in view s) slots

-- where it stands, whatever it was asked
abbrev pub at_rest : Stand → Stand
at_rest s = record s { ask = 0 }

-- the slots' FMUs stand so
abbrev pub StandSo : {L : Type 0} {g : _} → (L → View) → List Stand → List (Slot L g) → Type 0
StandSo view ss slots = map at_rest ss ≡ stands view slots

-- ---- which are selected

abbrev pub passes : Who → Stand → Bool
passes W.Everyone s = true
passes (W.Saved early) s = is_saved early s.shape
passes W.Early s = s.shape.might_return_early
passes (W.Elsewhere m) s = is_elsewhere m s
passes (W.EndElsewhere t bound m) s = ends_elsewhere t bound m s

-- ---- a turn

-- a step ends after its beginning
abbrev pub CanAsk : Turn → Type 0
CanAsk (T.Step t end) = t < end
CanAsk turn = Unit {0}

abbrev pub job_in : Turn → Stand → Job
job_in T.Save s = J.Save
job_in (T.Back t) s = if s.point == t then J.Nothing else J.Restore
job_in (T.Step t end) s = J.Step t (end - t)
job_in T.Free s = J.Free

abbrev pub job_of : Who → Turn → Stand → Job
job_of who turn s = if passes who s then job_in turn s else J.Nothing

abbrev pub with_job : {L : Type 0} {g : _} → (L → View) → Who → Turn → Slot L g → Slot L g
with_job view who turn slot = record slot { job = job_of who turn (stand_in view slot) }

abbrev pub WithJob : {L : Type 0} {g : _} → (L → View) → Who → Turn → Slot L g → Slot L g → Type 0
WithJob view who turn old new = new ≡ with_job view who turn old

-- its FMU may be sent the call of the job
abbrev pub CanDo : {L : Type 0} {g : _} → (L → View) → Who → Turn → Slot L g → Type 0
CanDo view who turn slot = CanWork view (with_job view who turn slot)

-- the call that a turn sends to an FMU
abbrev pub call_of : Turn → Call
call_of T.Save = C.Save
call_of (T.Back t) = C.Restore
call_of (T.Step t end) = C.DoStep t (end - t)
call_of T.Free = C.Free

-- who is sent it: of those that are selected to go back, the ones that stand elsewhere
abbrev pub is_sent : Who → Turn → Stand → Bool
is_sent who (T.Back t) s = passes who s && not (s.point == t)
is_sent who turn s = passes who s

-- the FMU of a slot answered this call well, and its answer stands there
pub record GoodSent {L : Type 0} {g : _} (view : L → View) (call : Call) (old : Slot L g)
    (es : List Exchange) (new : Slot L g) : Type 0 where
  pub exchange : Exchange
  pub is : es ≡ exchange ∷ []
  pub call_is : exchange.call ≡ call
  pub has : Has (instance_in view old) (exchange ∷ []) (instance_in view new)
  pub good : IsGood (view (peer_in old.held)).fixed.shape exchange
  pub live : IsLive view new.held
  pub answer : new.answer ≡ Some (Ok (asks_to_end exchange))

-- the slot was left as it was, but for its job
pub record WasLeft {L : Type 0} {g : _} (old : Slot L g) (es : List Exchange)
    (new : Slot L g) : Type 0 where
  pub is : es ≡ []
  pub job : Job
  pub new_is : new ≡ record old { job = job }

abbrev pub SentTo : {L : Type 0} {g : _} → (L → View) → Call → Bool → Slot L g → List Exchange →
    Slot L g → Type 0
SentTo view call true old es new = GoodSent view call old es new
SentTo view call false old es new = WasLeft old es new

abbrev pub bad_in : {T : Type 0} → Result T BadAnswer → Option BadAnswer
bad_in (Ok x) = None
bad_in (Err bad) = Some bad

-- as a result: the first answer that isn't good, where there is one
abbrev pub told_by : Option BadAnswer → Result (Unit {0}) BadAnswer
told_by None = Ok tt
told_by (Some bad) = Err bad

-- each FMU that is selected was sent the call and answered well
abbrev pub SentWell : {L T : Type 0} {g : _} → (L → View) → Who → Turn → List (Slot L g) →
    List Sent → List (Slot L g) → Result T BadAnswer → Type 0
SentWell {L = L} {g = g} view who turn olds log news (Ok x) =
    (i : ℕ) (d : Slot L g) → i < length olds →
    SentTo view (call_of turn) (is_sent who turn (stand_in view (slice_index_or olds i d)))
    (slice_index_or olds i d) (part i log) (slice_index_or news i d)
SentWell view who turn olds log news (Err bad) = Unit {0}

-- the turn's call was sent to those that are selected, whatever they answered
pub record Sends {L T : Type 0} {g : _} (view : L → View) (who : Who) (turn : Turn)
    (olds news : List (Slot L g)) (result : Result T BadAnswer) : Type 0 where
  pub log : List Sent
  pub told : Told log (instances view olds) (instances view news)
  pub says : AllSent (shapes (instances view olds))
      (to_some (is_sent who turn) (call_of turn) (stands view olds)) log (bad_in result)
  pub well : SentWell view who turn olds log news result
