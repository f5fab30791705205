use Rattle.std.proofs.Common.{◌≤◌}
use Rattle.trace_export.proofs.seconds.rounded_whole.Given as goal

abbrev pub invariant-scale : goal.invariant-scale
invariant-scale l = 1 ≤ l.scale
