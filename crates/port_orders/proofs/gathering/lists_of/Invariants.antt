use Rattle.std.proofs.Common.{◌↔◌, ℕ, ◌<◌, length}
use Rattle.dependency_order.specs.Graph.{Needs}
use Rattle.port_orders.specs.Gathered.{IsGathering, IsTold}
use Rattle.port_orders.proofs.gathering.lists_of.Given as goal

abbrev pub invariant-loop-number : goal.invariant-loop-number
invariant-loop-number l = record {
  held : IsGathering (length l.ports) l.gathering.stamps.items l.gathering.lists;
  told : (p q : ℕ) → Needs l.gathering.lists p q ↔ ((p < l.number) × IsTold l.components l.ports l.taken l.initializing p q);
}
