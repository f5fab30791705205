use Rattle.std.proofs.Common.{◌≡◌, length, refl, ap, subst}
use Rattle.std.specs.Prelude.{IfErr, OnOk, ◌||◌}
use Rattle.fmi_calls.specs.declared.call.Call.TheVariants as C
use Rattle.fmi_calls.specs.declared.call.Reply.{Reply}
use Rattle.fmu_peer.specs.Answer.{AnsweredWith, FailedWith}
use Rattle.fmu_peer.specs.CloseAll.{peer_in}
use Rattle.slot_calls.proofs.StatesAsBytes.{with_bad, with_good}
use Rattle.slot_calls.proofs.keeping.take_in.Goals as goal

pub returns-in-Ok : goal.returns-in-Ok
returns-in-Ok g c =
    let view = g.L.Peer.view in
    let old = c.args.slot.now in
    let bytes = c.args.state.now in
    let call = C.Deserialize (length bytes) c.args.point c.args.stop in
    let peer = c.in-Instantiated.fmu.peer in
    let after = c.deserialize-answer.new.self.peer in
    let peer_is : peer_in old.held ≡ peer = ap peer_in c.in-Instantiated.is in
    let a = subst (λ r. OnOk r ((reply : Reply) × AnsweredWith (view peer) call bytes reply (view after))) c.in-Ok.is c.deserialize-answer.ensures.ok in
    with_good view old _ c.args.point c.args.stop bytes c.requires.live c.requires.may c.requires.ordered refl c.deserialize-answer.result peer peer_is (ap (λ b. old.is_fatal || b) c.is_fatal.ensures)
    c.in-Ok.saved c.in-Ok.is a.0 a.1 c.hold.ensures refl

pub returns-in-Err : goal.returns-in-Err
returns-in-Err g c =
    let view = g.L.Peer.view in
    let old = c.args.slot.now in
    let bytes = c.args.state.now in
    let call = C.Deserialize (length bytes) c.args.point c.args.stop in
    let peer = c.in-Instantiated.fmu.peer in
    let after = c.deserialize-answer.new.self.peer in
    let peer_is : peer_in old.held ≡ peer = ap peer_in c.in-Instantiated.is in
    let f = subst (λ r. IfErr r (λ why. FailedWith (view peer) call bytes why (view after))) c.in-Err.is c.deserialize-answer.ensures.err in
    with_bad view old _ c.args.point c.args.stop bytes c.requires.live c.requires.may c.requires.ordered refl c.deserialize-answer.result peer peer_is (ap (λ b. old.is_fatal || b) c.is_fatal.ensures)
    c.in-Err.why c.in-Err.is f refl
