use Rattle.std.proofs.Common.{◌≡◌, ℕ, ◌<◌, get_or, Some, None}
use Rattle.dependency_order.proofs.grouped.are_named.Given as goal

abbrev pub invariant-loop-node : goal.invariant-loop-node
invariant-loop-node l = (p group : ℕ) → p < l.node → get_or l.group_of p None ≡ Some group → group < l.count
