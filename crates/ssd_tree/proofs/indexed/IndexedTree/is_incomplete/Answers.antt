use Rattle.ssd_tree.proofs.EndLemmas.{or_first, or_last}
use Rattle.ssd_tree.proofs.indexed.IndexedTree.is_incomplete.Goals as goal

pub returns-then-is_incomplete_part : goal.returns-then-is_incomplete_part
returns-then-is_incomplete_part c = or_first c.is_incomplete_part.ensures c.if-is_incomplete_part.true

pub returns-else-is_incomplete_part : goal.returns-else-is_incomplete_part
returns-else-is_incomplete_part c = or_last c.is_incomplete_part.ensures c.if-is_incomplete_part.false c.is_incomplete_entry.ensures
