use Rattle.std.proofs.Common.{arith}
use Rattle.parameter_sets.specs.Sets.{IsParameter}
use Rattle.transformations.proofs.CallerLemmas.{part_more}
use Rattle.parameter_sets.proofs.parameters.parameters.Goals as goal

pub loop-node-preserved : goal.loop-node-preserved
loop-node-preserved c =
    part_more (IsParameter c.args.tree.now) c.args.nodes.now c.loop-node.found.items c.push.new.self.items c.loop-node.node-index c.in_ok-parameter.field-0 (omega arith)
    c.loop-node.invariant c.in_ok-parameter.ensures c.in_ok-push.ensures.items
