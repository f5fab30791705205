use Rattle.std.proofs.Common.{ℕ, ◌<◌}
use Rattle.dependency_order.specs.Graph.{Needs}
use Rattle.dependency_order.proofs.lists.Lists.are_below.Given as goal

abbrev pub invariant-loop-at : goal.invariant-loop-at
invariant-loop-at l = (p q : ℕ) → p < l.at → Needs l.self p q → q < l.limit
