use Rattle.std.proofs.Common.{◌≡◌, ◌<◌, ◌+◌, ℤ, List, Option, true, ap, arith, get_or, length, length-set, refl, subst, sym, ◌∙◌}
use Rattle.std.specs.Prelude.{◌&&◌, is_some}
use Rattle.sim_base.specs.declared.numbers.PortId.{PortId}
use Rattle.system_model.specs.declared.system.Port.{Port}
use Rattle.system_model.specs.Values.{value}
use Rattle.event_iteration.specs.Participants.{is_unfed}
use Rattle.event_iteration.proofs.Rounds.{number_at}
use Rattle.event_iteration.proofs.Skipping.{place_in_order, port_in_order}
use Rattle.event_iteration.proofs.Taking.{port_at}
use Rattle.event_iteration.proofs.WaitingPlaces.{AwaitedBefore, awaited_more, awaited_same}
use Rattle.event_iteration.proofs.participants.await_unfed.Goals as goal
use Rattle.event_iteration.proofs.participants.await_unfed.Goals.{then-is_unfed_with, else-is_unfed_with}

pub loop-k-init : goal.loop-k-init
loop-k-init c = record { size = refl; awaited = λ j p port low at is unfed. absurd (omega (arith, low)) }

pub bounds-ports-p : goal.bounds-ports-p
bounds-ports-p c =
    let d : PortId = record { 0 = 0 } in
    subst (λ (xs : List Port). (get_or c.as_slice-order.result.now c.loop-k.k d).0 < length xs) (sym c.as_slice-ports.ensures) (port_in_order c.args.system.now c.requires.sound c.as_slice-order.result.now c.loop-k.k d c.as_slice-order.ensures c.loop-k-test.true)

pub loop-k-preserved : goal.loop-k-preserved
loop-k-preserved c =
    let system = c.args.system.now in
    let order = c.as_slice-order.result.now in
    let values = c.args.values.now in
    let k = c.loop-k.k in
    let d : PortId = record { 0 = 0 } in
    let p = (get_or order k d).0 in
    let port = c.index-ports-p.result in
    let inv = c.loop-k.invariant in
    let at = number_at system.instant_order order k d c.as_slice-order.ensures c.loop-k-test.true in
    let is = port_at c.as_slice-ports.result.now system.ports p port c.as_slice-ports.ensures c.index-ports-p.is (port_in_order system c.requires.sound order k d c.as_slice-order.ensures c.loop-k-test.true) in
    let lt : k < length c.loop-k.pending = (let w = c.loop-k-test.true in let s = inv.size in let n = c.requires.places in let e = ap length c.as_slice-order.ensures in omega (arith, w, s, n, e)) in
    let told = c.is_unfed_with.ensures ∙ ap (λ (v : Option ℤ). is_unfed (get_or c.as_slice-ports.result.now p port).role && is_some v) c.at.ensures ∙ ap (λ (x : Port). is_unfed x.role && is_some (value values p)) (sym c.index-ports-p.is) in
    record {
      size = elim c.if-is_unfed_with.branch as (λ b. length c.if-is_unfed_with.pending ≡ length c.args.pending.now) [
        | then-is_unfed_with w ↦ ap length (w.pending-is ∙ w.add.ensures) ∙ length-set c.loop-k.pending k true ∙ inv.size
        | else-is_unfed_with w ↦ ap length w.pending-is ∙ inv.size
      ];
      awaited = elim c.if-is_unfed_with.branch as (λ b. AwaitedBefore system (k + 1) values c.if-is_unfed_with.pending) [
        | then-is_unfed_with w ↦ subst (AwaitedBefore system (k + 1) values) (sym (w.pending-is ∙ w.add.ensures)) (awaited_more system k p port at is values c.loop-k.pending inv.awaited lt)
        | else-is_unfed_with w ↦ subst (AwaitedBefore system (k + 1) values) (sym w.pending-is) (awaited_same system k p port at is values c.loop-k.pending inv.awaited (sym told ∙ w.if-is_unfed_with.false))
      ];
    }

pub returns-clause-awaited : goal.returns-clause-awaited
returns-clause-awaited c j p port at is =
    c.loop-k.invariant.awaited j p port (let over = c.loop-k-test.false in let e = ap length c.as_slice-order.ensures in let low = place_in_order c.args.system.now c.requires.sound j p at in omega (arith, over, e, low)) at is
