use Rattle.std.proofs.Common.{arith}
use Rattle.ssd_tree.specs.Elements.{IsConnection}
use Rattle.ssd_tree.specs.Indexed.{nodes_of}
use Rattle.ssd_tree.specs.Parts.{IsConnectionPart}
use Rattle.ssd_tree.proofs.PartLemmas.{listed_one, part_more}
use Rattle.ssd_tree.proofs.indexed.IndexedTree.connection_parts.Goals as goal

pub connection_part-requires-clause-is : goal.connection_part-requires-clause-is
connection_part-requires-clause-is c =
    listed_one (IsConnection c.args.self.now.tree.now) c.args.self.now.lists.connections.items c.deref-node-items.result.now c.requires.indexed.lists.connections c.deref-node-items.ensures.value c.loop-node.node-index (omega arith)

pub loop-node-preserved : goal.loop-node-preserved
loop-node-preserved c =
    part_more (IsConnectionPart c.args.self.now.tree.now (nodes_of c.args.self.now.lists)) c.args.self.now.lists.connections.items c.deref-node-items.result.now c.loop-node.parts.items c.push.new.self.items
    c.loop-node.node-index c.in_ok-connection_part.field-0 c.deref-node-items.ensures.value (omega arith) c.loop-node.invariant c.in_ok-connection_part.ensures c.in_ok-push.ensures.items
