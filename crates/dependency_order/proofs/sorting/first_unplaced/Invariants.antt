use Rattle.std.proofs.Common.{ℕ, ◌<◌}
use Rattle.dependency_order.specs.Paths.{IsMarked}
use Rattle.dependency_order.proofs.sorting.first_unplaced.Given as goal

abbrev pub invariant-loop-node : goal.invariant-loop-node
invariant-loop-node l = (p : ℕ) → p < l.node → IsMarked l.placed p
