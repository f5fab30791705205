use Rattle.std.proofs.Common.{arith}
use Rattle.ssd_tree.specs.Elements.{IsConnector}
use Rattle.ssd_tree.specs.Indexed.{nodes_of}
use Rattle.ssd_tree.specs.Parts.{IsConnectorPart}
use Rattle.ssd_tree.proofs.PartLemmas.{listed_one, part_more}
use Rattle.ssd_tree.proofs.indexed.IndexedTree.connector_parts.Goals as goal

pub connector_part-requires-clause-is : goal.connector_part-requires-clause-is
connector_part-requires-clause-is c =
    listed_one (IsConnector c.args.self.now.tree.now) c.args.self.now.lists.connectors.items c.deref-node-items.result.now c.requires.indexed.lists.connectors c.deref-node-items.ensures.value c.loop-node.node-index (omega arith)

pub loop-node-preserved : goal.loop-node-preserved
loop-node-preserved c =
    part_more (IsConnectorPart c.args.self.now.tree.now (nodes_of c.args.self.now.lists)) c.args.self.now.lists.connectors.items c.deref-node-items.result.now c.loop-node.parts.items c.push.new.self.items
    c.loop-node.node-index c.in_ok-connector_part.field-0 c.deref-node-items.ensures.value (omega arith) c.loop-node.invariant c.in_ok-connector_part.ensures c.in_ok-push.ensures.items
