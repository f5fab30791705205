-- One job of a slot.
use Rattle.std.proofs.Common.{◌≡◌, Bool, false, Ok, Err, Result, Some, refl, sym, ap, ◌∙◌, subst}
use Rattle.std.specs.Prelude.{◌||◌, is_some}
use Rattle.value_types.specs.declared.shape.Shape.{Shape}
use Rattle.fmi_calls.specs.declared.call.Call.{Call}
use Rattle.fmi_calls.specs.declared.call.Call.TheVariants as C
use Rattle.fmi_calls.specs.declared.call.Content.TheVariants as A
use Rattle.fmi_calls.specs.declared.call.Grade.TheVariants as G
use Rattle.fmi_calls.specs.declared.call.Reply.{Reply}
use Rattle.fmi_calls.specs.declared.call.Reply.TheVariants as R
use Rattle.fmi_calls.specs.declared.phase.InstanceState.{InstanceState}
use Rattle.fmi_calls.specs.declared.phase.InstanceState.TheVariants as P
use Rattle.fmi_calls.specs.Next.{counted, entered}
use Rattle.fmi_calls.specs.Permission.{Permitted}
use Rattle.fmi_calls.specs.Worth.{grade_of}
use Rattle.fmu_peer.specs.declared.ended.Why.{Why}
use Rattle.fmu_peer.specs.declared.slot.Slot.{Slot}
use Rattle.fmu_peer.specs.Answer.{Answered, Failed}
use Rattle.fmu_peer.specs.CloseAll.{instance_in, peer_in}
use Rattle.fmu_peer.specs.View.{View}
use Rattle.run_model.specs.Stepping.{is_terminating}
use Rattle.slot_calls.specs.Carried.{asks_to_end}
use Rattle.slot_calls.specs.Log.{One}
use Rattle.slot_calls.specs.Slots.{Called, IsLive, is_fatal_result}
use Rattle.slot_calls.proofs.CallerLemmas.{called_bad, called_good, fatal_one, grade_no, saved_bad, saved_good, saved_is, saved_next, state_by_good}
use Rattle.parallel_step.specs.Round.{Did}

-- ---- a call that saves, restores or frees a state doesn't ask for the end

pub ends_save : (shape : Shape) (reply : Reply) → grade_of shape C.Save reply ≡ G.Good → false ≡ is_terminating reply
ends_save shape (R.Done is_warning (A.DoStep event_needed terminate e end)) h = absurd (grade_no shape false refl h)
ends_save shape reply h = refl

pub ends_restore : (shape : Shape) (reply : Reply) → grade_of shape C.Restore reply ≡ G.Good → false ≡ is_terminating reply
ends_restore shape (R.Done is_warning (A.DoStep event_needed terminate e end)) h = absurd (grade_no shape false refl h)
ends_restore shape reply h = refl

pub ends_free : (shape : Shape) (reply : Reply) → grade_of shape C.Free reply ≡ G.Good → false ≡ is_terminating reply
ends_free shape (R.Done is_warning (A.DoStep event_needed terminate e end)) h = absurd (grade_no shape false refl h)
ends_free shape reply h = refl

-- ---- what a job leaves of its slot

module _ {L : Type 0} {g : _} (view : L → View) (old new : Slot L g) (call : Call) (may : Permitted (view (peer_in old.held)).fixed.shape (view (peer_in old.held)).phase call)
    (source : new.source.0 ≡ old.source.0) (job : new.job ≡ old.job) where
  one_by : (r : Result Bool Why) → Called call asks_to_end (view (peer_in old.held)) (view (peer_in new.held)) r → is_some new.saved ≡ saved_next (is_some old.saved) call r → new.is_fatal ≡ (old.is_fatal || is_fatal_result r) →
      One call asks_to_end (instance_in view old) (instance_in view new) r
  one_by r called saved fatal = record {
    exchange = called.exchange;
    is = called.is;
    has = record {
      talks = called.talks;
      source = source;
      saved = saved ∙ ap (λ (c : Call). saved_next (is_some old.saved) c r) (sym called.is)
          ∙ saved_is (view (peer_in old.held)).fixed.shape asks_to_end (is_some old.saved) called.exchange r called.worth;
      fatal = fatal ∙ ap (λ (b : Bool). old.is_fatal || b) (fatal_one (view (peer_in old.held)).fixed.shape asks_to_end called.exchange r called.worth);
    };
    worth = called.worth;
  }

  -- what is held is this peer
  module _ {T : Type 0} (r : Result T Why) (peer : L) (peer_is : peer_in old.held ≡ peer) (fatal : new.is_fatal ≡ (old.is_fatal || is_fatal_result r)) where
    pub did_good : (x : T) → r ≡ Ok x → (reply : Reply) (asks : Bool) → Answered (view peer) call reply (view (peer_in new.held)) → asks ≡ is_terminating reply →
        is_some new.saved ≡ saved_good (is_some old.saved) call → IsLive view new.held → Did view call old new (Ok asks)
    did_good x is reply asks a ends saved live = record {
      one = one_by (Ok asks) (called_good (view (peer_in old.held)) (view (peer_in new.held)) call asks_to_end reply asks may (subst (λ (l : L). Answered (view l) call reply (view (peer_in new.held))) (sym peer_is) a) ends) saved
          (fatal ∙ ap (λ q. old.is_fatal || is_fatal_result q) is);
      live = live;
      job_is = job;
    }

    pub did_bad : (why : Why) → r ≡ Err why → Failed (view peer) call why (view (peer_in new.held)) →
        is_some new.saved ≡ saved_bad (is_some old.saved) call → Did view call old new (Err why)
    did_bad why is f saved = record {
      one = one_by (Err why) (called_bad (view (peer_in old.held)) (view (peer_in new.held)) call asks_to_end why may (subst (λ (l : L). Failed (view l) call why (view (peer_in new.held))) (sym peer_is) f)) saved
          (fatal ∙ ap (λ q. old.is_fatal || is_fatal_result q) is);
      live = tt;
      job_is = job;
    }

-- the state stays
pub stays_stepping : (old new : View) (call : Call) (reply : Reply) → Answered old call reply new → (entered old.fixed.shape (counted old.phase call) call reply).state ≡ old.phase.state → old.phase.state ≡ P.Step → Some P.Step ≡ Some new.phase.state
stays_stepping old new call reply a same is = ap (λ (s : InstanceState). Some s) (sym (state_by_good old new call reply a ∙ same ∙ is))
