use Rattle.std.proofs.Common.{◌≡◌, ◌+◌, length}
use Rattle.doc_tables.specs.Tables.{IsRepeated}
use Rattle.doc_tables.specs.Violations.{FindsLeast}
use Rattle.flatten.specs.Rules.{end_at}
use Rattle.flatten.proofs.LeastLemmas.{HasBelow, HasBroken}
use Rattle.flatten.proofs.EndLemmas.{AreTaken}
use Rattle.flatten.proofs.connectors.FlatTree.first_repeated_end.Given as goal

abbrev pub invariant-loop-connection : goal.invariant-loop-connection
invariant-loop-connection l = record {
  len : length l.taken.items ≡ length l.self.variables.all.items + length l.self.points.items;
  taken : AreTaken l.self.tree.now l.self.points.items (length l.self.variables.all.items) l.connection l.taken.items;
  first : FindsLeast (HasBelow (HasBroken l.self.tree.now.connections (λ k. k.node) (λ i k. IsRepeated (end_at l.self.tree.now l.self.shapes.now) i)) l.connection) l.first;
}
