use Rattle.std.proofs.Common.{ℕ, ◌≤◌, length, take}
use Rattle.std.specs.List.{Contains}
use Rattle.dependency_order.specs.Sorting.{IsSorting, IsFurther, IsHeld}
use Rattle.dependency_order.proofs.sorting.Sorting.examine_all.Given as goal

abbrev pub invariant-loop-node : goal.invariant-loop-node
invariant-loop-node l = record {
  sorting : IsSorting l.needs l.self.order.items l.self.placed.items l.self.passed.items l.self.waiting;
  further : IsFurther l.needs l.fn.self.order.items l.self.order.items l.fn.self.placed.items l.self.placed.items l.fn.self.waiting l.self.waiting;
  held : (at p : ℕ) → at ≤ length l.fn.self.order.items → Contains (take l.node-index l.nodes) p → IsHeld l.needs l.self.order.items l.self.placed.items l.self.waiting at p;
}
