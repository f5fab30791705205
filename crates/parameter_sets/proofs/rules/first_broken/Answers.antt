use Rattle.std.proofs.Common.{arith}
use Rattle.parameter_sets.specs.Rules.{IsBroken}
use Rattle.parameter_sets.proofs.LeastLemmas.{least_more}
use Rattle.parameter_sets.proofs.rules.first_broken.Goals as goal

pub loop-node-preserved : goal.loop-node-preserved
loop-node-preserved c =
    least_more (IsBroken c.args.tree.now c.args.part) c.args.nodes.now c.loop-node.node-index c.in_ok-broken.broken c.loop-node.first c.least_with-first.result
    (omega arith) c.in_ok-broken.ensures c.loop-node.invariant c.least_with-first.ensures
