use Rattle.std.proofs.Common.{refl, sym, ap, ◌∙◌, Some, subst}
use Rattle.fmi_calls.specs.declared.call.Call.TheVariants as C
use Rattle.fmi_calls.specs.declared.phase.InstanceState.{InstanceState}
use Rattle.fmu_peer.specs.Answer.{Answered}
use Rattle.fmu_peer.specs.CloseAll.{peer_in}
use Rattle.slot_calls.proofs.Moving.{moves_good, moves_bad, ends_none}
use Rattle.slot_calls.proofs.advancing.exit_initialization.Goals as goal

pub returns-in-Ok : goal.returns-in-Ok
returns-in-Ok g c =
    let old = g.L.Peer.view c.args.fmu.peer in
    let reply = c.in-Ok.ensures.ok.0 in
    let held = c.held_running.result in
    let answered : Answered old C.ExitInitialization reply (g.L.Peer.view (peer_in held)) =
    subst (λ p. Answered old C.ExitInitialization reply (g.L.Peer.view p)) (sym c.held_running.ensures.peer) c.in-Ok.ensures.ok.1 in
    moves_good g.L.Peer.view _ _ _ _ reply _ c.requires.permitted answered (ends_none old.fixed.shape C.ExitInitialization refl reply answered.good)
    (c.held_running.ensures.state ∙ ap (λ (s : InstanceState). Some s) (c.in-Ok.ensures.mode ∙ ap (λ p. (g.L.Peer.view p).phase.state) (sym c.held_running.ensures.peer)))

pub returns-in-Err : goal.returns-in-Err
returns-in-Err g c = moves_bad g.L.Peer.view _ _ _ _ c.in-Err.ended.why c.requires.permitted c.in-Err.ensures.err
