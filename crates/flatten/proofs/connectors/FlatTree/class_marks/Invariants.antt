use Rattle.flatten.specs.Marks.{IsOfClass}
use Rattle.flatten.proofs.MarkLemmas.{MarkedBelow}
use Rattle.flatten.proofs.connectors.FlatTree.class_marks.Given as goal

abbrev pub invariant-loop-connector : goal.invariant-loop-connector
invariant-loop-connector l = MarkedBelow (IsOfClass l.self.tree.now l.self.shapes.now l.class) l.connector l.starts.items
