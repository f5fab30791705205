use Rattle.flatten.specs.Marks.{IsOutputAt}
use Rattle.flatten.proofs.MarkLemmas.{MarkedBelow}
use Rattle.flatten.proofs.connectors.FlatTree.outputs.Given as goal

abbrev pub invariant-loop-connector : goal.invariant-loop-connector
invariant-loop-connector l = MarkedBelow (IsOutputAt l.self.tree.now l.self.shapes.now) l.connector l.outputs.items
