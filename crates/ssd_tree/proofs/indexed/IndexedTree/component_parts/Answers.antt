use Rattle.std.proofs.Common.{arith}
use Rattle.ssd_tree.specs.Elements.{IsComponent}
use Rattle.ssd_tree.specs.Indexed.{nodes_of}
use Rattle.ssd_tree.specs.Parts.{IsComponentPart}
use Rattle.ssd_tree.proofs.PartLemmas.{listed_one, part_more}
use Rattle.ssd_tree.proofs.indexed.IndexedTree.component_parts.Goals as goal

pub component_part-requires-clause-is : goal.component_part-requires-clause-is
component_part-requires-clause-is c =
    listed_one (IsComponent c.args.self.now.tree.now) c.args.self.now.lists.components.items c.deref-node-items.result.now c.requires.indexed.lists.components c.deref-node-items.ensures.value c.loop-node.node-index (omega arith)

pub loop-node-preserved : goal.loop-node-preserved
loop-node-preserved c =
    part_more (IsComponentPart c.args.self.now.tree.now (nodes_of c.args.self.now.lists)) c.args.self.now.lists.components.items c.deref-node-items.result.now c.loop-node.parts.items c.push.new.self.items
    c.loop-node.node-index c.in_ok-component_part.field-0 c.deref-node-items.ensures.value (omega arith) c.loop-node.invariant c.in_ok-component_part.ensures c.in_ok-push.ensures.items
