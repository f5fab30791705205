use Rattle.std.proofs.Common.{◌≡◌, [], length, take}
use Rattle.dependency_order.specs.Paths.{IsSpread}
use Rattle.dependency_order.proofs.paths.reached_from.Given as goal

abbrev pub invariant-loop-start : goal.invariant-loop-start
invariant-loop-start l = record {
  work : l.spreading.work.items ≡ [];
  len : length l.spreading.found.items ≡ length l.links;
  spread : IsSpread l.links l.through (take l.start-index l.starts) l.spreading.found.items;
}
