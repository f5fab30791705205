-- How a talk goes on: it stays legal, and it stays good up to the first answer that isn't.
use Rattle.std.proofs.Common.{◌≡◌, List, [], ◌∷◌, ◌++◌, Option, Some, None, IfSome, Result, Ok, refl, sym, ap, ◌∙◌, subst}
use Rattle.std.specs.Prelude.{option_map}
use Rattle.std.proofs.lemmas.List.Elements.{All-push}
use Rattle.value_types.specs.declared.shape.Shape.{Shape}
use Rattle.fmi_calls.specs.declared.call.Call.{Call}
use Rattle.fmi_calls.specs.declared.call.Reply.{Reply}
use Rattle.fmi_calls.specs.declared.call.Grade.TheVariants as G
use Rattle.fmi_calls.specs.declared.phase.Phase.{Phase}
use Rattle.fmi_calls.specs.Worth.{grade_of}
use Rattle.fmi_calls.specs.Permission.{Permitted}
use Rattle.fmi_calls.specs.Next.{fresh}
use Rattle.fmu_peer.specs.declared.peer.PeerFault.{PeerFault}
use Rattle.fmu_peer.specs.declared.peer.Exchange.{Exchange}
use Rattle.fmu_peer.specs.declared.ended.Why.{Why}
use Rattle.fmu_peer.specs.declared.talk_room.TalkRoom.{TalkRoom}
use Rattle.fmu_peer.specs.Talk as T
use Rattle.fmu_peer.specs.Talk.{Legal, LegalFrom, next_by, phase_from, phase_after}
use Rattle.fmu_peer.specs.View.{View, Asked, AllGood, talked}
use Rattle.fmu_peer.specs.Answer.{IsWhy, IsFirstBad}

pub phase_from-append : (shape : Shape) (p : Phase) (es : List Exchange) (e : Exchange) →
    phase_from shape p (es ++ e ∷ []) ≡ next_by shape (phase_from shape p es) e
phase_from-append shape p [] e = refl
phase_from-append shape p (d ∷ es) e = phase_from-append shape (next_by shape p d) es e

pub LegalFrom-append : (shape : Shape) (p : Phase) (es : List Exchange) (e : Exchange) →
    LegalFrom shape p es → Permitted shape (phase_from shape p es) e.call → LegalFrom shape p (es ++ e ∷ [])
LegalFrom-append shape p [] e legal may = (may, tt)
LegalFrom-append shape p (d ∷ es) e legal may = (legal.0, LegalFrom-append shape (next_by shape p d) es e legal.1 may)

-- the talk is legal and leads to the phase
abbrev pub LeadsTo : Shape → Phase → List Exchange → Type 0
LeadsTo shape p es = Legal shape es × (p ≡ phase_after shape es)

leads_on : (shape : Shape) (p q : Phase) (es fs : List Exchange) (e : Exchange) →
    LeadsTo shape p es → Permitted shape p e.call → q ≡ next_by shape p e → fs ≡ es ++ e ∷ [] → LeadsTo shape q fs
leads_on shape p q es fs e h may next is =
    let there : LeadsTo shape q (es ++ e ∷ []) = (
      LegalFrom-append shape (fresh shape) es e h.0 (subst (λ (r : Phase). Permitted shape r e.call) h.1 may),
      next ∙ ap (λ (r : Phase). next_by shape r e) h.1 ∙ sym (phase_from-append shape (fresh shape) es e),
    ) in
    subst (LeadsTo shape q) (sym is) there

-- a kept talk goes on by an exchange
pub kept_leads_on : (shape : Shape) (p q : Phase) (old new : Option TalkRoom) (e : Exchange) →
    IfSome old (λ (t : TalkRoom). LeadsTo shape p t.exchanges.items) →
    Permitted shape p e.call → q ≡ next_by shape p e →
    option_map (λ (t : TalkRoom). t.exchanges.items) new ≡ option_map (λ (t : TalkRoom). t.exchanges.items ++ e ∷ []) old →
    IfSome new (λ (t : TalkRoom). LeadsTo shape q t.exchanges.items)
kept_leads_on shape p q None None e h may next is = tt
kept_leads_on shape p q None (Some t) e h may next is = absurd (cc)
kept_leads_on shape p q (Some s) None e h may next is = tt
kept_leads_on shape p q (Some s) (Some t) e h may next is = leads_on shape p q s.exchanges.items t.exchanges.items e h may next (cc)

good_talked : (shape : Shape) (o : Option (List Exchange)) (call : Call) (result : Result Reply PeerFault) →
    IfSome o (T.AllGood shape) → T.IsGood shape (record { call = call; result = result }) → IfSome (talked o call result) (T.AllGood shape)
good_talked shape None call result h good = tt
good_talked shape (Some es) call result h good = All-push (T.IsGood shape) es (record { call = call; result = result }) h good

first_bad_talked : (shape : Shape) (why : Why) (o : Option (List Exchange)) (call : Call) (result : Result Reply PeerFault) →
    IfSome o (T.AllGood shape) → IsWhy shape why (record { call = call; result = result }) → IfSome (talked o call result) (IsFirstBad shape why)
first_bad_talked shape why None call result h bad = tt
first_bad_talked shape why (Some es) call result h bad =
    record { prefix = es; last = record { call = call; result = result }; is = refl; good = h; bad = bad }

pub answered_good : (old new : View) (call : Call) (reply : Reply) → Asked old call (Ok reply) new →
    grade_of old.fixed.shape call reply ≡ G.Good → AllGood old → AllGood new
answered_good old new call reply asked good h =
    let same : new.fixed.shape ≡ old.fixed.shape = ap (λ f. f.shape) asked.fixed in
    subst (λ (s : Shape). IfSome new.talk (T.AllGood s)) (sym same)
    (subst (λ (o : Option (List Exchange)). IfSome o (T.AllGood old.fixed.shape)) (sym asked.talk) (good_talked old.fixed.shape old.talk call (Ok reply) h good))

pub failed_bad : (old new : View) (call : Call) (result : Result Reply PeerFault) (why : Why) → Asked old call result new →
    IsWhy old.fixed.shape why (record { call = call; result = result }) → AllGood old → IfSome new.talk (IsFirstBad new.fixed.shape why)
failed_bad old new call result why asked bad h =
    let same : new.fixed.shape ≡ old.fixed.shape = ap (λ f. f.shape) asked.fixed in
    subst (λ (s : Shape). IfSome new.talk (IsFirstBad s why)) (sym same)
    (subst (λ (o : Option (List Exchange)). IfSome o (IsFirstBad old.fixed.shape why)) (sym asked.talk) (first_bad_talked old.fixed.shape why old.talk call result h bad))
