use Rattle.std.proofs.Common.{arith}
use Rattle.parallel_step.proofs.CallerLemmas.{pairs_step}
use Rattle.rollback.specs.Places.{WithJob}
use Rattle.rollback.proofs.asking.set_jobs.Goals as goal

pub loop-slot-preserved : goal.loop-slot-preserved
loop-slot-preserved g c =
    pairs_step (WithJob g.L.Peer.view c.args.who c.args.turn) c.args.slots.now c.loop-slot.slots c.loop-slot.slot-index c.slot-item.result c.set_job.new.slot
    c.loop-slot.invariant (omega arith) c.slot-item.is (rw c.slot-item.is c.set_job.ensures)
