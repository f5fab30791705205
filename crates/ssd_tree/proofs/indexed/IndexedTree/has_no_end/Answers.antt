use Rattle.ssd_tree.proofs.EndLemmas.{or_first, or_last}
use Rattle.ssd_tree.proofs.indexed.IndexedTree.has_no_end.Goals as goal

pub returns-then-has_no_start : goal.returns-then-has_no_start
returns-then-has_no_start c = or_first c.has_no_start.ensures c.if-has_no_start.true

pub returns-else-has_no_start : goal.returns-else-has_no_start
returns-else-has_no_start c = or_last c.has_no_start.ensures c.if-has_no_start.false c.has_no_stop.ensures
