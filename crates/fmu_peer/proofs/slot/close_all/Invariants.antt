use Rattle.std.specs.Prelude.{map}
use Rattle.fmu_peer.specs.CloseAll.{instance_in}
use Rattle.fmu_peer.proofs.OrderLemmas.{ClosedUpTo}
use Rattle.fmu_peer.proofs.slot.close_all.Given as goal

abbrev pub invariant-loop-place : goal.invariant-loop-place
invariant-loop-place g l = ClosedUpTo (map (λ s. instance_in g.L.Peer.view s) l.initial.slots) (map (λ s. instance_in g.L.Peer.view s) l.slots) l.place
