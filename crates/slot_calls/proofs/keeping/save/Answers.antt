use Rattle.std.proofs.Common.{◌≡◌, refl, ap, subst}
use Rattle.std.specs.Prelude.{IfErr, OnOk, ◌||◌}
use Rattle.fmi_calls.specs.declared.call.Call.TheVariants as C
use Rattle.fmi_calls.specs.declared.call.Reply.{Reply}
use Rattle.fmu_peer.specs.Answer.{Answered, Failed}
use Rattle.fmu_peer.specs.CloseAll.{peer_in}
use Rattle.slot_calls.proofs.StatesAsBytes.{sent_bad, sent_good, stays_stepping}
use Rattle.slot_calls.proofs.keeping.save.Goals as goal

pub returns-in-Ok : goal.returns-in-Ok
returns-in-Ok g c =
    let view = g.L.Peer.view in
    let peer = c.in-Stepping.fmu.peer in
    let after = c.save-answer.new.self.peer in
    let peer_is : peer_in c.args.slot.now.held ≡ peer = ap peer_in c.in-Stepping.is in
    let a = subst (λ r. OnOk r ((reply : Reply) × Answered (view peer) C.Save reply (view after))) c.in-Ok.is c.save-answer.ensures.ok in
    sent_good view c.args.slot.now _ C.Save c.requires.may refl c.save-answer.result peer peer_is (ap (λ b. c.args.slot.now.is_fatal || b) c.is_fatal.ensures)
    c.in-Ok.saved c.in-Ok.is a.0 a.1 c.hold.ensures (stays_stepping view C.Save c.args.slot.now peer after peer_is c.requires.may.permitted.0 a.0 a.1 refl)

pub returns-in-Err : goal.returns-in-Err
returns-in-Err g c =
    let view = g.L.Peer.view in
    let peer = c.in-Stepping.fmu.peer in
    let after = c.save-answer.new.self.peer in
    let peer_is : peer_in c.args.slot.now.held ≡ peer = ap peer_in c.in-Stepping.is in
    let f = subst (λ r. IfErr r (λ why. Failed (view peer) C.Save why (view after))) c.in-Err.is c.save-answer.ensures.err in
    sent_bad view c.args.slot.now _ C.Save c.requires.may refl c.save-answer.result peer peer_is (ap (λ b. c.args.slot.now.is_fatal || b) c.is_fatal.ensures)
    c.in-Err.why c.in-Err.is f refl
