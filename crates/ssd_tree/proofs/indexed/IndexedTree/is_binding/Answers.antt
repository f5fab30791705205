use Rattle.ssd_tree.specs.Elements.{IsBinding}
use Rattle.ssd_tree.proofs.ListingLemmas.{listed}
use Rattle.ssd_tree.proofs.indexed.IndexedTree.is_binding.Goals as goal

pub returns : goal.returns
returns c =
    listed (IsBinding c.args.self.now.tree.now) c.args.self.now.lists.bindings.items c.as_slice.result.now c.args.node c.is_listed.result c.as_slice.ensures.value c.requires.lists.bindings c.is_listed.ensures
