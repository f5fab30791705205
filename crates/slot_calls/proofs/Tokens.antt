-- The token of a saved state after a call.
use Rattle.std.proofs.Common.{◌≡◌, Bool, false, true, Ok, Err, Result, refl, sym, ap, ◌∙◌}
use Rattle.std.specs.Prelude.{MatchResult}
use Rattle.value_types.specs.declared.shape.Shape.{Shape}
use Rattle.fmi_calls.specs.declared.call.Call.{Call}
use Rattle.fmi_calls.specs.declared.call.Call.TheVariants as C
use Rattle.fmi_calls.specs.declared.call.Grade.{Grade}
use Rattle.fmi_calls.specs.declared.call.Grade.TheVariants as G
use Rattle.fmi_calls.specs.declared.call.Reply.{Reply}
use Rattle.fmi_calls.specs.Worth.{grade_of}
use Rattle.fmu_peer.specs.declared.ended.Why.{Why}
use Rattle.fmu_peer.specs.declared.ended.Why.TheVariants as W
use Rattle.fmu_peer.specs.declared.peer.Exchange.{Exchange}
use Rattle.fmu_peer.specs.declared.peer.PeerFault.{PeerFault}
use Rattle.fmu_peer.specs.Answer.{IsWhy}
use Rattle.slot_calls.specs.Log.{Worth}
use Rattle.slot_calls.specs.SavedStates.{if_good, saved_by}

-- whether one is held after a call with a good answer, and after one with another
abbrev pub saved_good : Bool → Call → Bool
saved_good saved C.Save = true
saved_good saved (C.Deserialize length point stop) = true
saved_good saved C.Free = false
saved_good saved call = saved

abbrev pub saved_bad : Bool → Call → Bool
saved_bad saved C.Free = false
saved_bad saved call = saved

abbrev pub saved_next : {T : Type 0} → Bool → Call → Result T Why → Bool
saved_next saved call (Ok x) = saved_good saved call
saved_next saved call (Err why) = saved_bad saved call

by_good : (shape : Shape) (saved : Bool) (call : Call) (r : Result Reply PeerFault) → MatchResult r (λ reply. grade_of shape call reply ≡ G.Good) (λ fault. ⊥) → saved_good saved call ≡ saved_by shape call r saved
by_good shape saved C.Save (Ok reply) good = sym (ap (λ (g : Grade). if_good g saved) good)
by_good shape saved (C.Deserialize length point stop) (Ok reply) good = sym (ap (λ (g : Grade). if_good g saved) good)
by_good shape saved C.Free (Ok reply) good = refl
by_good shape saved call (Ok reply) good = refl
by_good shape saved call (Err fault) good = absurd good

by_refused : (shape : Shape) (saved : Bool) (call : Call) (reply : Reply) → grade_of shape call reply ≡ G.Refused → saved_bad saved call ≡ saved_by shape call (Ok reply) saved
by_refused shape saved C.Save reply bad = sym (ap (λ (g : Grade). if_good g saved) bad)
by_refused shape saved (C.Deserialize length point stop) reply bad = sym (ap (λ (g : Grade). if_good g saved) bad)
by_refused shape saved C.Free reply bad = refl
by_refused shape saved call reply bad = refl

by_misreply : (shape : Shape) (saved : Bool) (call : Call) (reply : Reply) → grade_of shape call reply ≡ G.Misreply → saved_bad saved call ≡ saved_by shape call (Ok reply) saved
by_misreply shape saved C.Save reply bad = sym (ap (λ (g : Grade). if_good g saved) bad)
by_misreply shape saved (C.Deserialize length point stop) reply bad = sym (ap (λ (g : Grade). if_good g saved) bad)
by_misreply shape saved C.Free reply bad = refl
by_misreply shape saved call reply bad = refl

by_fault : (shape : Shape) (saved : Bool) (call : Call) (fault : PeerFault) → saved_bad saved call ≡ saved_by shape call (Err fault) saved
by_fault shape saved C.Save fault = refl
by_fault shape saved (C.Deserialize length point stop) fault = refl
by_fault shape saved C.Free fault = refl
by_fault shape saved call fault = refl

by_bad : (shape : Shape) (saved : Bool) (why : Why) (e : Exchange) → IsWhy shape why e → saved_bad saved e.call ≡ saved_by shape e.call e.result saved
by_bad shape saved (W.Refused call status) e (reply, call_is, result, status_is, grade) =
    by_refused shape saved e.call reply (ap (λ (c : Call). grade_of shape c reply) call_is ∙ grade) ∙ sym (ap (λ (r : Result Reply PeerFault). saved_by shape e.call r saved) result)
by_bad shape saved (W.Misreply call reply) e (call_is, result, grade) =
    by_misreply shape saved e.call reply (ap (λ (c : Call). grade_of shape c reply) call_is ∙ grade) ∙ sym (ap (λ (r : Result Reply PeerFault). saved_by shape e.call r saved) result)
by_bad shape saved (W.Link call fault) e (call_is, result) =
    by_fault shape saved e.call fault ∙ sym (ap (λ (r : Result Reply PeerFault). saved_by shape e.call r saved) result)

pub saved_is : {T : Type 0} (shape : Shape) (value : Exchange → T) (saved : Bool) (e : Exchange) (r : Result T Why) → Worth shape value e r → saved_next saved e.call r ≡ saved_by shape e.call e.result saved
saved_is shape value saved e (Ok x) worth = by_good shape saved e.call e.result worth.0
saved_is shape value saved e (Err why) worth = by_bad shape saved why e worth
