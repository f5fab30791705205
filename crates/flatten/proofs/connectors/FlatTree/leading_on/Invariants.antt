use Rattle.flatten.specs.Marks.{IsInputBeside}
use Rattle.flatten.proofs.MarkLemmas.{MarkedBelow}
use Rattle.flatten.proofs.connectors.FlatTree.leading_on.Given as goal

abbrev pub invariant-loop-connector : goal.invariant-loop-connector
invariant-loop-connector l = MarkedBelow (IsInputBeside l.class l.self.tree.now l.self.shapes.now) l.connector l.ends.items
