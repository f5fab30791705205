use Rattle.std.proofs.Common.{arith}
use Rattle.transformations.specs.Changes.{IsBooleanPair}
use Rattle.transformations.proofs.ListLemmas.{none_beside, part_more}
use Rattle.transformations.proofs.change.boolean_pairs.Goals as goal

pub returns-in_default : goal.returns-in_default
returns-in_default c = λ xs all. none_beside (IsBooleanPair c.args.tree.now) c.args.entries.now xs c.loop-node.node-index (omega arith) c.in_default.ensures all

pub loop-node-preserved : goal.loop-node-preserved
loop-node-preserved c =
    part_more (IsBooleanPair c.args.tree.now) c.args.entries.now c.loop-node.pairs.items c.push.new.self.items c.loop-node.node-index c.in-Some.pair (omega arith)
    c.loop-node.invariant c.in-Some.ensures c.in_ok-push.ensures.items
