use Rattle.std.proofs.Common.{arith}
use Rattle.fmu_description.proofs.MarkLemmas.{marks_next}
use Rattle.fmu_description.proofs.ignored.mark_all.Goals as goal

pub loop-node-preserved : goal.loop-node-preserved
loop-node-preserved c = marks_next c.args.tree.now c.args.nodes.now c.loop-node.node-index _ _ _ _ _ _ (omega arith) c.loop-node.invariant c.in_ok-mark.ensures
