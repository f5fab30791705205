use Rattle.event_iteration.proofs.WaitingPlaces.{HoldPlaces}
use Rattle.event_iteration.proofs.participants.places_at_ticks.Given as goal

abbrev pub invariant-loop-k : goal.invariant-loop-k
invariant-loop-k l = HoldPlaces l.system l.k l.lists
