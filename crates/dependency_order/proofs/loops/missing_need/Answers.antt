use Rattle.dependency_order.proofs.FindLemmas.{need_below, none_missing}
use Rattle.dependency_order.proofs.loops.missing_need.Goals as goal

pub bounds-placed-need : goal.bounds-placed-need
bounds-placed-need c = need_below c.args.needs.now c.args.placed.now c.row-need-items.result.now c.args.node c.loop-need.need-index c.requires.marks c.requires.closed c.row-need-items.ensures c.loop-need-test.true

pub unreachable-requires : goal.unreachable-requires
unreachable-requires c = none_missing c.args.needs.now c.args.placed.now c.row-need-items.result.now c.args.node c.loop-need.need-index c.requires.stuck c.requires.node c.requires.unplaced c.row-need-items.ensures c.loop-need-test.false c.loop-need.invariant
