use Rattle.ssd_tree.specs.Elements.{IsComponent}
use Rattle.ssd_tree.proofs.ListingLemmas.{listed}
use Rattle.ssd_tree.proofs.indexed.IndexedTree.is_component.Goals as goal

pub returns : goal.returns
returns c =
    listed (IsComponent c.args.self.now.tree.now) c.args.self.now.lists.components.items c.as_slice.result.now c.args.node c.is_listed.result c.as_slice.ensures.value c.requires.lists.components c.is_listed.ensures
