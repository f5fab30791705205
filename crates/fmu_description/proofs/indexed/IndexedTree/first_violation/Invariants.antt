use Rattle.std.proofs.Common.{ℕ, ◌<◌}
use Rattle.fmu_description.specs.Rules.{BreaksNoRule}
use Rattle.fmu_description.proofs.indexed.IndexedTree.first_violation.Given as goal

abbrev pub invariant-loop-node : goal.invariant-loop-node
invariant-loop-node l = (j : ℕ) → j < l.node → BreaksNoRule l.self.tree.now l.self.resolution j
