use Rattle.std.proofs.Common.{◌≡◌, ◌+◌, ◌*◌, ◌∷◌, ◌++◌, [], ℕ, List, length}
use Rattle.std.specs.List.{count_by}
use Rattle.std.specs.Option.{is_none}
use Rattle.dependency_order.specs.Paths.{IsSpread}
use Rattle.dependency_order.proofs.SpreadLemmas.{IsOpen, IsMine}
use Rattle.dependency_order.proofs.paths.Spreading.spread.Given as goal

abbrev pub invariant-loop-node : goal.invariant-loop-node
invariant-loop-node l = record {
  len : length l.self.found.items ≡ length l.links;
  mine : IsMine l.through l.from l.self.found.items l.self.work.items;
  spread : (starts : List ℕ) → IsSpread l.links l.through starts l.fn.self.found.items → IsOpen l.links l.through (starts ++ l.from ∷ []) l.self.found.items l.self.work.items;
}

abbrev pub decreases-loop-node : goal.decreases-loop-node
decreases-loop-node l = 2 * count_by is_none l.self.found.items + length l.self.work.items
