use Rattle.std.proofs.Common.{◌∙◌, sym, arith}
use Rattle.dependency_order.proofs.SpreadLemmas.{spreads_next}
use Rattle.dependency_order.proofs.paths.Spreading.reach_all.Goals as goal

pub reach-requires : goal.reach-requires
reach-requires c = c.requires ∙ sym c.loop-node.invariant.same_length

pub loop-node-preserved : goal.loop-node-preserved
loop-node-preserved c = spreads_next c.args.through.now c.args.from c.args.nodes.now c.loop-node.node-index _ _ _ _ _ _ (omega arith) c.loop-node.invariant c.in_ok-reach.ensures
