use Rattle.std.proofs.Common.{ℕ, ◌<◌}
use Rattle.doc_tables.specs.Violations.{BreaksNoRule}
use Rattle.ssd_tree.specs.Rules.{ViolatesStructure}
use Rattle.ssd_tree.proofs.indexed.IndexedTree.first_violation.Given as goal

abbrev pub invariant-loop-node : goal.invariant-loop-node
invariant-loop-node l = (j : ℕ) → j < l.node → BreaksNoRule (ViolatesStructure l.self.setting l.self.tree.now) j
