use Rattle.flatten.specs.Marks.{IsOfType}
use Rattle.flatten.proofs.MarkLemmas.{MarkedBelow}
use Rattle.flatten.proofs.connectors.FlatTree.type_marks.Given as goal

abbrev pub invariant-loop-connector : goal.invariant-loop-connector
invariant-loop-connector l = MarkedBelow (IsOfType l.self.tree.now l.self.shapes.now l.kind) l.connector l.starts.items
