use Rattle.parallel_step.specs.Round.{PairsBelow}
use Rattle.rollback.specs.Places.{WithJob}
use Rattle.rollback.proofs.asking.set_jobs.Given as goal

abbrev pub invariant-loop-slot : goal.invariant-loop-slot
invariant-loop-slot g l = PairsBelow (WithJob g.L.Peer.view l.fn.who l.fn.turn) l.initial.slots l.slot-index l.slots
