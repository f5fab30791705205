use Rattle.std.proofs.Common.{◌≡◌, ◌<◌, ◌-◌, ◌+◌, length, slice_index}
use Rattle.tick_schedule.specs.Cost.{TakesTurns}
use Rattle.tick_schedule.specs.HeapOrder.{IsPlaced, IsOrderedButDown, key_at}
use Rattle.tick_schedule.proofs.sift.sift_down.Given as goal

abbrev pub invariant-loop-hole : goal.invariant-loop-hole
invariant-loop-hole g l = record {
  placed : IsPlaced (length l.points) l.order l.places;
  hole : l.hole < length l.points;
  clock : slice_index l.order l.hole ≡ l.moved.clock;
  ordered : IsOrderedButDown (length l.points) l.hole (key_at l.points l.order);
  turns : TakesTurns 2 (l.hole + 1) l.initial.steps l.steps;
}

abbrev pub decreases-loop-hole : goal.decreases-loop-hole
decreases-loop-hole g l = length l.points - l.hole
