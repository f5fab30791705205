use Rattle.std.proofs.Common.{refl, sym, ap}
use Rattle.fmi_calls.specs.declared.call.Call.{Call}
use Rattle.slot_calls.specs.SavedStates.{saved_by}
use Rattle.slot_calls.proofs.Moving.{stays_bad, stays_good}
use Rattle.slot_calls.proofs.advancing.do_step.Goals as goal

pub returns-in-Ok : goal.returns-in-Ok
returns-in-Ok g c has = stays_good _ _ _ _ has has c.in-Ok.reply _ c.requires.permitted c.in-Ok.ensures.ok c.is_terminating.ensures c.requires.permitted.0 refl

pub returns-in-Err : goal.returns-in-Err
returns-in-Err g c has =
    stays_bad _ _ _ _ has has c.in-Err.why c.requires.permitted c.in-Err.ensures.err (λ e is why. sym (ap (λ (x : Call). saved_by (g.L.Peer.view c.args.fmu.now.peer).fixed.shape x e.result has) is))
