use Rattle.std.proofs.Common.{◌≡◌, ◌++◌, [], ℕ, ◌<◌, ◌≤◌, length, get_or, None}
use Rattle.dependency_order.specs.Grouped.{group_node}
use Rattle.dependency_order.proofs.grouped.expand.Given as goal

abbrev pub invariant-loop-node : goal.invariant-loop-node
invariant-loop-node l = record {
  len : length l.listed ≡ length l.fn.needs.listed;
  done : (p : ℕ) → p < l.node → get_or l.listed p [] ≡ get_or l.fn.needs.listed p [] ++ group_node (length l.fn.needs.listed) (get_or l.group_of.items p None);
  rest : (p : ℕ) → l.node ≤ p → get_or l.listed p [] ≡ get_or l.fn.needs.listed p [];
}
