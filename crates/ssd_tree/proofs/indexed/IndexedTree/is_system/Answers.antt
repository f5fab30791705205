use Rattle.ssd_tree.specs.Elements.{IsSystem}
use Rattle.ssd_tree.proofs.ListingLemmas.{listed}
use Rattle.ssd_tree.proofs.indexed.IndexedTree.is_system.Goals as goal

pub returns : goal.returns
returns c =
    listed (IsSystem c.args.self.now.tree.now) c.args.self.now.lists.systems.items c.as_slice.result.now c.args.node c.is_listed.result c.as_slice.ensures.value c.requires.lists.systems c.is_listed.ensures
