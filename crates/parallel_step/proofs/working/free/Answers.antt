use Rattle.std.proofs.Common.{◌≡◌, refl, sym, ap, ◌∙◌, subst, false, is_some}
use Rattle.std.specs.Prelude.{IfErr, IfOk, ◌||◌}
use Rattle.fmi_calls.specs.declared.call.Call.TheVariants as C
use Rattle.fmi_calls.specs.declared.call.Reply.{Reply}
use Rattle.fmi_calls.specs.declared.phase.InstanceState.TheVariants as P
use Rattle.fmu_peer.specs.Answer.{Answered, Failed}
use Rattle.fmu_peer.specs.CloseAll.{peer_in}
use Rattle.parallel_step.proofs.Doing.{did_bad, did_good, ends_free, stays_stepping}
use Rattle.parallel_step.proofs.working.free.Goals as goal

pub returns-in-Ok : goal.returns-in-Ok
returns-in-Ok g c =
    let view = g.L.Peer.view in
    let peer = c.in-Stepping.fmu.peer in
    let after = c.free-answer.new.self.peer in
    let peer_is : peer_in c.args.slot.now.held ≡ peer = ap peer_in c.in-Stepping.is in
    let a : (reply : Reply) × Answered (view peer) C.Free reply (view after) = (c.in-Ok.field-0, subst (λ r. IfOk r (λ reply. Answered (view peer) C.Free reply (view after))) c.in-Ok.is c.free-answer.ensures.ok) in
    let stepping : (view peer).phase.state ≡ P.Step = ap (λ l. (view l).phase.state) (sym peer_is) ∙ c.requires.in_step in
    did_good view c.args.slot.now _ C.Free c.requires.permitted refl refl c.free-answer.result peer peer_is (ap (λ b. c.args.slot.now.is_fatal || b) c.is_fatal.ensures)
    c.in-Ok.field-0 c.in-Ok.is a.0 false a.1 (ends_free (view peer).fixed.shape a.0 a.1.good) (ap is_some c.take.ensures.after) (stays_stepping (view peer) (view after) C.Free a.0 a.1 refl stepping)

pub returns-in-Err : goal.returns-in-Err
returns-in-Err g c =
    let view = g.L.Peer.view in
    let peer = c.in-Stepping.fmu.peer in
    let after = c.free-answer.new.self.peer in
    let peer_is : peer_in c.args.slot.now.held ≡ peer = ap peer_in c.in-Stepping.is in
    let f = subst (λ r. IfErr r (λ why. Failed (view peer) C.Free why (view after))) c.in-Err.is c.free-answer.ensures.err in
    did_bad view c.args.slot.now _ C.Free c.requires.permitted refl refl c.free-answer.result peer peer_is (ap (λ b. c.args.slot.now.is_fatal || b) c.is_fatal.ensures)
    c.in-Err.why c.in-Err.is f (ap is_some c.take.ensures.after)
