use Rattle.rollback.proofs.Going.{Going}
use Rattle.rollback.proofs.agreeing.agree_all.Given as goal

abbrev pub invariant-loop-point : goal.invariant-loop-point
invariant-loop-point g l = Going g.L.Peer.view l.fn.t l.fn.step l.fn.bound l.initial.slots l.bound l.slots

abbrev pub decreases-loop-point : goal.decreases-loop-point
decreases-loop-point g l = l.bound
