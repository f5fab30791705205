use Rattle.ssd_tree.specs.Ends.{IsStop}
use Rattle.ssd_tree.proofs.EndLemmas.{none_told}
use Rattle.ssd_tree.proofs.indexed.IndexedTree.has_no_stop.Goals as goal

pub returns : goal.returns
returns c = none_told (IsStop c.args.self.now.tree.now c.args.node) c.stop.result c.is_none.result c.is_none.ensures c.stop.ensures
