use Rattle.doc_tables.specs.Violations.{FindsLeast}
use Rattle.flatten.specs.Broken.{path_fault, tree_for}
use Rattle.flatten.specs.Rules.{IsLastOf}
use Rattle.flatten.proofs.LeastLemmas.{HasBelow, HasBroken}
use Rattle.flatten.proofs.connectors.FlatTree.first_connection.Given as goal

abbrev pub invariant-loop-connection : goal.invariant-loop-connection
invariant-loop-connection l = FindsLeast (HasBelow (HasBroken l.self.tree.now.connections (λ k. k.node) (λ i k. IsLastOf (path_fault l.self.tree.now l.self.shapes.now l.rule) (tree_for l.rule l.self.tree.now) l.self.shapes.now k)) l.connection) l.first
