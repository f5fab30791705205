use Rattle.std.proofs.Common.{refl, sym, ap, Some}
use Rattle.fmi_calls.specs.declared.phase.InstanceState.{InstanceState}
use Rattle.fmu_peer.specs.Mode.{instantiate_of}
use Rattle.slot_calls.proofs.Moving.{moves_good, moves_bad, state_by_good, ends_none}
use Rattle.slot_calls.proofs.advancing.instantiate.Goals as goal

pub returns-in-Ok : goal.returns-in-Ok
returns-in-Ok g c = moves_good g.L.Peer.view _ _ _ _ c.in-Ok.ensures.ok.0 _ (c.requires.state, refl, refl) c.in-Ok.ensures.ok.1
    (ends_none (g.L.Peer.view c.args.fmu.peer).fixed.shape (instantiate_of c.args.link (g.L.Peer.view c.args.fmu.peer).fixed.shape) refl c.in-Ok.ensures.ok.0 c.in-Ok.ensures.ok.1.good)
    (ap (λ (s : InstanceState). Some s) (sym (state_by_good _ _ _ c.in-Ok.ensures.ok.0 c.in-Ok.ensures.ok.1)))

pub returns-in-Err : goal.returns-in-Err
returns-in-Err g c = moves_bad g.L.Peer.view _ _ _ _ c.in-Err.ended.why (c.requires.state, refl, refl) c.in-Err.ensures.err
