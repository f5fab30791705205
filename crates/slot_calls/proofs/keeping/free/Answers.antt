use Rattle.std.proofs.Common.{◌≡◌, is_some, refl, ap, subst}
use Rattle.std.specs.Prelude.{IfErr, IfOk, ◌||◌}
use Rattle.fmi_calls.specs.declared.call.Call.TheVariants as C
use Rattle.fmu_peer.specs.Answer.{Answered, Failed}
use Rattle.fmu_peer.specs.CloseAll.{peer_in}
use Rattle.slot_calls.proofs.StatesAsBytes.{at_step, sent_bad, sent_good, stays_stepping}
use Rattle.slot_calls.proofs.keeping.free.Goals as goal

pub returns-in-Ok : goal.returns-in-Ok
returns-in-Ok g c =
    let view = g.L.Peer.view in
    let peer = c.in-Stepping.fmu.peer in
    let after = c.free-answer.new.self.peer in
    let peer_is : peer_in c.args.slot.now.held ≡ peer = ap peer_in c.in-Stepping.is in
    let a : Answered (view peer) C.Free c.in-Ok.field-0 (view after) = subst (λ r. IfOk r (λ reply. Answered (view peer) C.Free reply (view after))) c.in-Ok.is c.free-answer.ensures.ok in
    sent_good view c.args.slot.now _ C.Free c.requires.may refl c.free-answer.result peer peer_is (ap (λ b. c.args.slot.now.is_fatal || b) c.is_fatal.ensures)
    c.in-Ok.field-0 c.in-Ok.is c.in-Ok.field-0 a (ap is_some c.take.ensures.after) (stays_stepping view C.Free c.args.slot.now peer after peer_is (at_step view c.args.slot.now c.requires.may.live c.requires.may.stepping) c.in-Ok.field-0 a refl)

pub returns-in-Err : goal.returns-in-Err
returns-in-Err g c =
    let view = g.L.Peer.view in
    let peer = c.in-Stepping.fmu.peer in
    let after = c.free-answer.new.self.peer in
    let peer_is : peer_in c.args.slot.now.held ≡ peer = ap peer_in c.in-Stepping.is in
    let f = subst (λ r. IfErr r (λ why. Failed (view peer) C.Free why (view after))) c.in-Err.is c.free-answer.ensures.err in
    sent_bad view c.args.slot.now _ C.Free c.requires.may refl c.free-answer.result peer peer_is (ap (λ b. c.args.slot.now.is_fatal || b) c.is_fatal.ensures)
    c.in-Err.why c.in-Err.is f (ap is_some c.take.ensures.after)
