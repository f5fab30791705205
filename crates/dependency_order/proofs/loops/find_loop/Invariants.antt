use Rattle.std.proofs.Common.{◌≡◌, ◌<◌, length}
use Rattle.std.specs.List.{count_by}
use Rattle.std.specs.Option.{is_none}
use Rattle.dependency_order.specs.Graph.{Needs}
use Rattle.dependency_order.specs.Paths.{IsMarked}
use Rattle.dependency_order.proofs.OrderLemmas.{Walks}
use Rattle.dependency_order.proofs.FindLemmas.{IsTold}
use Rattle.dependency_order.proofs.loops.find_loop.Given as goal

abbrev pub invariant-loop-place : goal.invariant-loop-place
invariant-loop-place l = record {
  walks : Walks (Needs l.needs) l.path.items l.node;
  node : l.node < length l.needs;
  unplaced : IsMarked l.placed l.node → ⊥;
  places : length l.places.items ≡ length l.needs;
  told : IsTold l.places.items l.path.items;
}

abbrev pub decreases-loop-place : goal.decreases-loop-place
decreases-loop-place l = count_by is_none l.places.items
