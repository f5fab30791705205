use Rattle.std.proofs.Common.{◌<◌}
use Rattle.trace_export.proofs.seconds.append_exact.Given as goal

abbrev pub invariant-places : goal.invariant-places
invariant-places l = l.rest < l.resolution
