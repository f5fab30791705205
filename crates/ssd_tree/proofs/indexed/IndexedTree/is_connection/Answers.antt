use Rattle.ssd_tree.specs.Elements.{IsConnection}
use Rattle.ssd_tree.proofs.ListingLemmas.{listed}
use Rattle.ssd_tree.proofs.indexed.IndexedTree.is_connection.Goals as goal

pub returns : goal.returns
returns c =
    listed (IsConnection c.args.self.now.tree.now) c.args.self.now.lists.connections.items c.as_slice.result.now c.args.node c.is_listed.result c.as_slice.ensures.value c.requires.lists.connections c.is_listed.ensures
