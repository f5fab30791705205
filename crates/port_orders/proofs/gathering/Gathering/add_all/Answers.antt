use Rattle.std.proofs.Common.{arith}
use Rattle.port_orders.proofs.GatherLemmas.{all_more}
use Rattle.port_orders.proofs.gathering.Gathering.add_all.Goals as goal

pub loop-need-preserved : goal.loop-need-preserved
loop-need-preserved c =
    let e = c.in_ok-add.ensures in
    record { held = e.held; adds = all_more c.args.taken.now c.args.port c.args.needs.now c.loop-need.need-index _ _ _ (omega arith) c.loop-need.invariant.adds e.adds }
