use Rattle.ssd_tree.specs.Rules.{IsFmu}
use Rattle.ssd_tree.proofs.ListingLemmas.{listed}
use Rattle.ssd_tree.proofs.indexed.IndexedTree.is_fmu.Goals as goal

pub returns : goal.returns
returns c =
    listed (IsFmu c.args.self.now.setting c.args.self.now.tree.now) c.args.self.now.fmus.items c.as_slice.result.now c.args.node c.is_listed.result c.as_slice.ensures.value c.requires.fmus c.is_listed.ensures
