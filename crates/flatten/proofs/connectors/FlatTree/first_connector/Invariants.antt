use Rattle.doc_tables.specs.Violations.{FindsLeast}
use Rattle.flatten.specs.Broken.{ConnectorBreaks}
use Rattle.flatten.proofs.LeastLemmas.{HasBelow, HasBroken}
use Rattle.flatten.proofs.connectors.FlatTree.first_connector.Given as goal

abbrev pub invariant-loop-connector : goal.invariant-loop-connector
invariant-loop-connector l = FindsLeast (HasBelow (HasBroken l.self.tree.now.connectors (λ k. k.node) (ConnectorBreaks l.self.tree.now l.self.shapes.now l.rule)) l.connector) l.first
