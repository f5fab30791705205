use Rattle.std.proofs.Common.{arith}
use Rattle.ssd_tree.specs.Names.{IsDotted}
use Rattle.ssd_tree.proofs.PartLemmas.{part_more}
use Rattle.ssd_tree.proofs.indexed.IndexedTree.dotted_names.Goals as goal

pub loop-node-preserved : goal.loop-node-preserved
loop-node-preserved c =
    part_more (IsDotted c.args.self.now.tree.now) c.args.self.now.lists.systems.items c.deref-node-items.result.now c.loop-node.names.items c.push.new.self.items
    c.loop-node.node-index c.in_ok-dotted.field-0 c.deref-node-items.ensures.value (omega arith) c.loop-node.invariant c.in_ok-dotted.ensures c.in_ok-push.ensures.items
