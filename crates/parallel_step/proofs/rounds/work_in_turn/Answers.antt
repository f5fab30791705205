use Rattle.std.proofs.Common.{arith}
use Rattle.parallel_step.specs.Round.{Works}
use Rattle.parallel_step.proofs.Pairs.{pairs_step}
use Rattle.parallel_step.proofs.rounds.work_in_turn.Goals as goal

pub loop-slot-preserved : goal.loop-slot-preserved
loop-slot-preserved g c =
    pairs_step (Works g.L.Peer.view) c.args.slots.now c.loop-slot.slots c.loop-slot.slot-index c.slot-item.result c.work.new.slot
    c.loop-slot.invariant (omega arith) c.slot-item.is (rw c.slot-item.is c.work.ensures)
