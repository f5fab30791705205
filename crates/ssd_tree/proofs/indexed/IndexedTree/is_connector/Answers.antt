use Rattle.ssd_tree.specs.Elements.{IsConnector}
use Rattle.ssd_tree.proofs.ListingLemmas.{listed}
use Rattle.ssd_tree.proofs.indexed.IndexedTree.is_connector.Goals as goal

pub returns : goal.returns
returns c =
    listed (IsConnector c.args.self.now.tree.now) c.args.self.now.lists.connectors.items c.as_slice.result.now c.args.node c.is_listed.result c.as_slice.ensures.value c.requires.lists.connectors c.is_listed.ensures
