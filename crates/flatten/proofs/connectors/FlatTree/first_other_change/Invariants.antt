use Rattle.doc_tables.specs.Violations.{FindsLeast}
use Rattle.flatten.specs.Rules.{HasOtherChange}
use Rattle.flatten.proofs.LeastLemmas.{HasBelow, HasBroken}
use Rattle.flatten.proofs.connectors.FlatTree.first_other_change.Given as goal

abbrev pub invariant-loop-connection : goal.invariant-loop-connection
invariant-loop-connection l = FindsLeast (HasBelow (HasBroken l.self.tree.now.connections (λ k. k.node) (λ i k. HasOtherChange l.self.tree.now l.self.shapes.now k)) l.connection) l.first
