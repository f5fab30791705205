use Rattle.std.proofs.Common.{refl, sym, ap, ◌∙◌, Some}
use Rattle.fmi_calls.specs.declared.phase.InstanceState.{InstanceState}
use Rattle.fmi_calls.specs.Next.{restored_state}
use Rattle.slot_calls.proofs.Moving.{moves_bad, moves_good, state_by_good}
use Rattle.slot_calls.proofs.keeping.resume_made.Goals as goal

pub returns-in-Ok : goal.returns-in-Ok
returns-in-Ok g c = moves_good g.L.Peer.view _ _ _ _ c.in-Ok.ensures.ok.0 _ c.requires.permitted c.in-Ok.ensures.ok.1 refl
    (ap (λ (s : InstanceState). Some s) (sym (state_by_good _ _ _ c.in-Ok.ensures.ok.0 c.in-Ok.ensures.ok.1 ∙ ap restored_state c.requires.made)))

pub returns-in-Err : goal.returns-in-Err
returns-in-Err g c = moves_bad g.L.Peer.view _ _ _ _ c.in-Err.ended.why c.requires.permitted c.in-Err.ensures.err
