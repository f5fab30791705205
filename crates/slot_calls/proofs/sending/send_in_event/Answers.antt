use Rattle.std.proofs.Common.{sym, subst}
use Rattle.fmi_calls.specs.declared.call.Call.{Call}
use Rattle.fmi_calls.specs.Permission.{Permitted}
use Rattle.slot_calls.specs.Carried.{reply_in, with_some}
use Rattle.slot_calls.specs.Slots.{Called}
use Rattle.slot_calls.proofs.Moving.{called_sent}
use Rattle.slot_calls.proofs.sending.send_in_event.Goals as goal

pub returns-in-Update-clause-called : goal.returns-in-Update-clause-called
returns-in-Update-clause-called g c =
    let old = g.L.Peer.view c.args.fmu.now.peer in
    let new = g.L.Peer.view c.update.new.self.peer in
    subst (λ (call : Call). Called call reply_in old new (with_some c.update.result)) (sym c.in-Update.is)
    (called_sent old new _ c.update.result (subst (Permitted old.fixed.shape old.phase) c.in-Update.is c.requires.permitted) c.update.ensures.ok c.update.ensures.err)
