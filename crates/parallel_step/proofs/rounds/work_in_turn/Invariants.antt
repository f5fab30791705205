use Rattle.parallel_step.specs.Round.{PairsBelow, Works}
use Rattle.parallel_step.proofs.rounds.work_in_turn.Given as goal

abbrev pub invariant-loop-slot : goal.invariant-loop-slot
invariant-loop-slot g l = PairsBelow (Works g.L.Peer.view) l.initial.slots l.slot-index l.slots
