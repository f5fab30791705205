use Rattle.std.proofs.Common.{sym, ap, ◌∙◌, subst}
use Rattle.fmi_calls.specs.declared.call.Call.{Call}
use Rattle.fmi_calls.specs.declared.call.Call.TheVariants as C
use Rattle.fmi_calls.specs.Permission.{Permitted}
use Rattle.slot_calls.specs.Carried.{reply_in, with_some}
use Rattle.slot_calls.specs.Slots.{Called}
use Rattle.slot_calls.proofs.Moving.{called_sent, passed_on}
use Rattle.slot_calls.proofs.sending.send_to.Goals as goal

pub returns-in-Get-clause-called : goal.returns-in-Get-clause-called
returns-in-Get-clause-called g c =
    let old = g.L.Peer.view c.args.fmu.now.peer in
    let new = g.L.Peer.view c.get.new.self.peer in
    subst (λ (call : Call). Called call reply_in old new (with_some c.get.result)) (sym c.in-Get.is)
    (called_sent old new _ c.get.result (subst (Permitted old.fixed.shape old.phase) c.in-Get.is c.requires.permitted) c.get.ensures.ok c.get.ensures.err)

pub returns-in-Set-clause-called : goal.returns-in-Set-clause-called
returns-in-Set-clause-called g c =
    let old = g.L.Peer.view c.args.fmu.now.peer in
    let new = g.L.Peer.view c.set.new.self.peer in
    let may : Permitted old.fixed.shape old.phase (C.Set c.in-Set.kind c.in-Set.reference c.in-Set.value) = subst (Permitted old.fixed.shape old.phase) c.in-Set.is c.requires.permitted in
    let same = ap (C.Set c.in-Set.kind c.in-Set.reference) (passed_on c.in-Set.kind c.in-Set.value may.2) in
    subst (λ (call : Call). Called call reply_in old new (with_some c.set.result)) (same ∙ sym c.in-Set.is)
    (called_sent old new _ c.set.result (subst (Permitted old.fixed.shape old.phase) (sym same) may) c.set.ensures.ok c.set.ensures.err)

pub returns-in-GetClock-clause-called : goal.returns-in-GetClock-clause-called
returns-in-GetClock-clause-called g c =
    let old = g.L.Peer.view c.args.fmu.now.peer in
    let new = g.L.Peer.view c.get_clock.new.self.peer in
    subst (λ (call : Call). Called call reply_in old new (with_some c.get_clock.result)) (sym c.in-GetClock.is)
    (called_sent old new _ c.get_clock.result (subst (Permitted old.fixed.shape old.phase) c.in-GetClock.is c.requires.permitted) c.get_clock.ensures.ok c.get_clock.ensures.err)

pub returns-in-SetClock-clause-called : goal.returns-in-SetClock-clause-called
returns-in-SetClock-clause-called g c =
    let old = g.L.Peer.view c.args.fmu.now.peer in
    let new = g.L.Peer.view c.set_clock.new.self.peer in
    subst (λ (call : Call). Called call reply_in old new (with_some c.set_clock.result)) (sym c.in-SetClock.is)
    (called_sent old new _ c.set_clock.result (subst (Permitted old.fixed.shape old.phase) c.in-SetClock.is c.requires.permitted) c.set_clock.ensures.ok c.set_clock.ensures.err)

pub returns-in-GetInterval-clause-called : goal.returns-in-GetInterval-clause-called
returns-in-GetInterval-clause-called g c =
    let old = g.L.Peer.view c.args.fmu.now.peer in
    let new = g.L.Peer.view c.interval.new.self.peer in
    subst (λ (call : Call). Called call reply_in old new (with_some c.interval.result)) (sym c.in-GetInterval.is)
    (called_sent old new _ c.interval.result (subst (Permitted old.fixed.shape old.phase) c.in-GetInterval.is c.requires.permitted) c.interval.ensures.ok c.interval.ensures.err)

pub returns-in-GetShift-clause-called : goal.returns-in-GetShift-clause-called
returns-in-GetShift-clause-called g c =
    let old = g.L.Peer.view c.args.fmu.now.peer in
    let new = g.L.Peer.view c.shift.new.self.peer in
    subst (λ (call : Call). Called call reply_in old new (with_some c.shift.result)) (sym c.in-GetShift.is)
    (called_sent old new _ c.shift.result (subst (Permitted old.fixed.shape old.phase) c.in-GetShift.is c.requires.permitted) c.shift.ensures.ok c.shift.ensures.err)
