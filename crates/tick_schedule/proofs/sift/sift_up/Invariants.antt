use Rattle.std.proofs.Common.{◌≡◌, ◌<◌, length, slice_index}
use Rattle.tick_schedule.specs.Cost.{ClimbsTurns}
use Rattle.tick_schedule.specs.HeapOrder.{IsPlaced, IsOrderedButUp, key_at}
use Rattle.tick_schedule.proofs.sift.sift_up.Given as goal

abbrev pub invariant-loop-hole : goal.invariant-loop-hole
invariant-loop-hole g l = record {
  placed : IsPlaced (length l.points) l.order l.places;
  hole : l.hole < length l.points;
  clock : slice_index l.order l.hole ≡ l.moved.clock;
  ordered : IsOrderedButUp (length l.points) l.hole (key_at l.points l.order);
  turns : ClimbsTurns 1 (length l.points) l.hole l.initial.steps l.steps;
}

abbrev pub decreases-loop-hole : goal.decreases-loop-hole
decreases-loop-hole g l = l.hole
