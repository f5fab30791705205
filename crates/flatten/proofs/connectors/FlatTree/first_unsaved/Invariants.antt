use Rattle.doc_tables.specs.Violations.{FindsLeast}
use Rattle.flatten.specs.Rules.{IsUnsaved}
use Rattle.flatten.proofs.LeastLemmas.{HasBelow, HasBroken}
use Rattle.flatten.proofs.connectors.FlatTree.first_unsaved.Given as goal

abbrev pub invariant-loop-component : goal.invariant-loop-component
invariant-loop-component l = FindsLeast (HasBelow (HasBroken l.self.tree.now.components (λ k. k.node) (λ i k. IsUnsaved l.self.shapes.now i)) l.component) l.first
