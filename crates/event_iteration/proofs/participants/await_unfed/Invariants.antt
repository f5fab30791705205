use Rattle.std.proofs.Common.{◌≡◌, length}
use Rattle.event_iteration.proofs.WaitingPlaces.{AwaitedBefore}
use Rattle.event_iteration.proofs.participants.await_unfed.Given as goal

abbrev pub invariant-loop-k : goal.invariant-loop-k
invariant-loop-k l = record {
  size : length l.pending ≡ length l.fn.pending;
  awaited : AwaitedBefore l.system l.k l.values l.pending;
}
