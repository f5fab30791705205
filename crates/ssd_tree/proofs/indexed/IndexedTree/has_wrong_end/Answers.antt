use Rattle.ssd_tree.proofs.EndLemmas.{or_first, or_last}
use Rattle.ssd_tree.proofs.indexed.IndexedTree.has_wrong_end.Goals as goal

pub returns-then-starts_wrong : goal.returns-then-starts_wrong
returns-then-starts_wrong c = or_first c.starts_wrong.ensures c.if-starts_wrong.true

pub returns-else-starts_wrong : goal.returns-else-starts_wrong
returns-else-starts_wrong c = or_last c.starts_wrong.ensures c.if-starts_wrong.false c.stops_wrong.ensures
