use Rattle.std.proofs.Common.{ℕ, ◌<◌, get_or}
use Rattle.dependency_order.specs.Paths.{IsMarked}
use Rattle.dependency_order.proofs.loops.missing_need.Given as goal

abbrev pub invariant-loop-need : goal.invariant-loop-need
invariant-loop-need l = (k : ℕ) → k < l.need-index → IsMarked l.placed (get_or l.need-items k 0)
