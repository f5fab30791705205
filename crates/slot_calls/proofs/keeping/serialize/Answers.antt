use Rattle.std.proofs.Common.{◌≡◌, refl, sym, ap, subst}
use Rattle.std.specs.Prelude.{IfErr, IfOk, ◌||◌}
use Rattle.fmi_calls.specs.declared.call.Call.TheVariants as C
use Rattle.fmu_peer.specs.Answer.{Answered, Failed}
use Rattle.fmu_peer.specs.CloseAll.{peer_in}
use Rattle.fmu_peer.specs.View.{IsFollowedBy}
use Rattle.slot_calls.specs.Keeping.{IsPackedSlot}
use Rattle.slot_calls.proofs.StatesAsBytes.{packed_slot, sent_bad, sent_good, stays_stepping}
use Rattle.slot_calls.proofs.keeping.serialize.Goals as goal

pub returns-in-Ok-clause-sent : goal.returns-in-Ok-clause-sent
returns-in-Ok-clause-sent g c =
    let view = g.L.Peer.view in
    let peer = c.in-Stepping-Some.fmu.peer in
    let after = c.serialize-answer.new.self.peer in
    let peer_is : peer_in c.args.slot.now.held ≡ peer = ap peer_in c.in-Stepping-Some.is-0 in
    let a : Answered (view peer) C.Serialize c.in-Ok.field-0 (view after) = subst (λ r. IfOk r (λ reply. Answered (view peer) C.Serialize reply (view after))) c.in-Ok.is c.serialize-answer.ensures.ok in
    sent_good view c.args.slot.now _ C.Serialize c.requires.may refl c.serialize-answer.result peer peer_is (ap (λ b. c.args.slot.now.is_fatal || b) c.is_fatal.ensures)
    c.in-Ok.field-0 c.in-Ok.is c.in-Ok.field-0 a refl (stays_stepping view C.Serialize c.args.slot.now peer after peer_is c.requires.may.permitted.0 c.in-Ok.field-0 a refl)

pub returns-in-Ok-clause-packed : goal.returns-in-Ok-clause-packed
returns-in-Ok-clause-packed g c =
    let view = g.L.Peer.view in
    let peer = c.in-Stepping-Some.fmu.peer in
    let after = c.serialize-answer.new.self.peer in
    let bytes = c.serialize-answer.new.into.items in
    let peer_is : peer_in c.args.slot.now.held ≡ peer = ap peer_in c.in-Stepping-Some.is-0 in
    let a : Answered (view peer) C.Serialize c.in-Ok.field-0 (view after) = subst (λ r. IfOk r (λ reply. Answered (view peer) C.Serialize reply (view after))) c.in-Ok.is c.serialize-answer.ensures.ok in
    let f : IsFollowedBy (view peer) c.in-Ok.field-0 bytes = subst (λ r. IfOk r (λ reply. IsFollowedBy (view peer) reply bytes)) c.in-Ok.is c.serialize-answer.ensures.bytes in
    subst (λ l. IsPackedSlot (view l).fixed.machine (view l).state bytes) (sym peer_is) (packed_slot (view peer).fixed.shape (view peer) c.in-Ok.field-0 bytes a.good f)

pub returns-in-Ok-clause-few : goal.returns-in-Ok-clause-few
returns-in-Ok-clause-few g c =
    let view = g.L.Peer.view in
    let peer = c.in-Stepping-Some.fmu.peer in
    let bytes = c.serialize-answer.new.into.items in
    let f : IsFollowedBy (view peer) c.in-Ok.field-0 bytes = subst (λ r. IfOk r (λ reply. IsFollowedBy (view peer) reply bytes)) c.in-Ok.is c.serialize-answer.ensures.bytes in
    f.few

pub returns-in-Err-clause-sent : goal.returns-in-Err-clause-sent
returns-in-Err-clause-sent g c =
    let view = g.L.Peer.view in
    let peer = c.in-Stepping-Some.fmu.peer in
    let after = c.serialize-answer.new.self.peer in
    let peer_is : peer_in c.args.slot.now.held ≡ peer = ap peer_in c.in-Stepping-Some.is-0 in
    let f = subst (λ r. IfErr r (λ why. Failed (view peer) C.Serialize why (view after))) c.in-Err.is c.serialize-answer.ensures.err in
    sent_bad view c.args.slot.now _ C.Serialize c.requires.may refl c.serialize-answer.result peer peer_is (ap (λ b. c.args.slot.now.is_fatal || b) c.is_fatal.ensures)
    c.in-Err.why c.in-Err.is f refl
