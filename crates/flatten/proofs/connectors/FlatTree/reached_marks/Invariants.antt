use Rattle.flatten.proofs.MarkLemmas.{IsFound, MarkedBelow}
use Rattle.flatten.proofs.connectors.FlatTree.reached_marks.Given as goal

abbrev pub invariant-loop-connector : goal.invariant-loop-connector
invariant-loop-connector l = MarkedBelow (IsFound l.self.tree.now l.starts.items l.found.items) l.connector l.reached.items
