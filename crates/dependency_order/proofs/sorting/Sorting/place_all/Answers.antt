use Rattle.std.proofs.Common.{arith}
use Rattle.dependency_order.proofs.SortLemmas.{stuck_at_end}
use Rattle.dependency_order.proofs.ExamineLemmas.{held_next}
use Rattle.dependency_order.proofs.sorting.Sorting.place_all.Goals as goal

pub loop-node-preserved : goal.loop-node-preserved
loop-node-preserved c =
    let s = c.loop-node.self in
    let n = c.examine.new.self in
    let e = c.in_ok-examine.ensures in
    record {
      sorting = e.sorting;
      held = held_next c.args.needs.now s.order.items n.order.items s.placed.items n.placed.items s.waiting n.waiting c.loop-node.node e.further c.loop-node.invariant.held e.held;
    }

pub returns-clause-stuck : goal.returns-clause-stuck
returns-clause-stuck c =
    let s = c.loop-at.self in
    let i = c.loop-at.invariant in
    stuck_at_end c.args.needs.now s.order.items s.placed.items s.passed.items s.waiting c.loop-at.at i.sorting (omega arith) i.held
