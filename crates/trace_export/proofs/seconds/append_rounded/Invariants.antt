use Rattle.std.proofs.Common.{◌<◌, ◌≤◌}
use Rattle.trace_export.proofs.seconds.append_rounded.Given as goal

abbrev pub invariant-places : goal.invariant-places
invariant-places l = (l.rest < l.resolution) × (l.digits < 1000000000000000) × (l.places ≤ l.counter)
