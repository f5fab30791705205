use Rattle.ssd_tree.specs.Ends.{IsStart}
use Rattle.ssd_tree.proofs.EndLemmas.{none_told}
use Rattle.ssd_tree.proofs.indexed.IndexedTree.has_no_start.Goals as goal

pub returns : goal.returns
returns c = none_told (IsStart c.args.self.now.tree.now c.args.node) c.start.result c.is_none.result c.is_none.ensures c.start.ensures
