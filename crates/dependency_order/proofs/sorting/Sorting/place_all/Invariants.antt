use Rattle.std.proofs.Common.{ℕ, ◌-◌, ◌<◌, ◌≤◌, length}
use Rattle.dependency_order.specs.Sorting.{IsSorting, IsHeld}
use Rattle.dependency_order.proofs.sorting.Sorting.place_all.Given as goal

abbrev pub invariant-loop-node : goal.invariant-loop-node
invariant-loop-node l = record {
  sorting : IsSorting l.needs l.self.order.items l.self.placed.items l.self.passed.items l.self.waiting;
  held : (p : ℕ) → p < l.node → IsHeld l.needs l.self.order.items l.self.placed.items l.self.waiting 0 p;
}

abbrev pub invariant-loop-at : goal.invariant-loop-at
invariant-loop-at l = record {
  sorting : IsSorting l.needs l.self.order.items l.self.placed.items l.self.passed.items l.self.waiting;
  within : l.at ≤ length l.self.order.items;
  held : (p : ℕ) → p < length l.needs → IsHeld l.needs l.self.order.items l.self.placed.items l.self.waiting l.at p;
}

abbrev pub decreases-loop-at : goal.decreases-loop-at
decreases-loop-at l = length l.needs - l.at
