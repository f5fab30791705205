use Rattle.std.proofs.Common.{◌<◌, List, Some, ap, arith, get_or, length, length-set, subst, sym, ◌∙◌}
use Rattle.sim_base.specs.declared.numbers.PortId.{PortId}
use Rattle.system_model.specs.declared.system.Port.{Port}
use Rattle.system_model.specs.Ports.{port_numbers}
use Rattle.event_iteration.specs.Participants.{is_steady}
use Rattle.event_iteration.proofs.Rounds.{number_at}
use Rattle.event_iteration.proofs.Skipping.{mark_in_order, place_in_order, port_in_order}
use Rattle.event_iteration.proofs.Taking.{port_at}
use Rattle.event_iteration.proofs.participants.mark_places.Goals as goal

pub bounds-ports-p : goal.bounds-ports-p
bounds-ports-p c =
    let d : PortId = record { 0 = 0 } in
    subst (λ (xs : List Port). (get_or c.as_slice-order.result.now c.loop-k.k d).0 < length xs) (sym c.as_slice-ports.ensures) (port_in_order c.args.system.now c.requires.sound c.as_slice-order.result.now c.loop-k.k d c.as_slice-order.ensures c.loop-k-test.true)

pub loop-k-preserved : goal.loop-k-preserved
loop-k-preserved c =
    let system = c.args.system.now in
    let order = c.as_slice-order.result.now in
    let k = c.loop-k.k in
    let d : PortId = record { 0 = 0 } in
    let p = (get_or order k d).0 in
    let port = c.index-ports-p.result in
    let inv = c.loop-k.invariant in
    let at = number_at system.instant_order order k d c.as_slice-order.ensures c.loop-k-test.true in
    let is = port_at c.as_slice-ports.result.now system.ports p port c.as_slice-ports.ensures c.index-ports-p.is (port_in_order system c.requires.sound order k d c.as_slice-order.ensures c.loop-k-test.true) in
    let lt : k < length c.loop-k.keeps = (let w = c.loop-k-test.true in let s = inv.size in let n = c.requires.places in let e = ap length c.as_slice-order.ensures in omega (arith, w, s, n, e)) in
    record {
      size = length-set c.loop-k.keeps k c.is_steady.result ∙ inv.size;
      marks = mark_in_order system (port_numbers system.instant_order) is_steady c.loop-k.keeps k p port c.is_steady.result at is lt c.is_steady.ensures inv.marks;
    }

pub returns-clause-marks : goal.returns-clause-marks
returns-clause-marks c j p port at is =
    c.loop-k.invariant.marks j p port (let over = c.loop-k-test.false in let e = ap length c.as_slice-order.ensures in let low = place_in_order c.args.system.now c.requires.sound j p at in omega (arith, over, e, low)) at is
