use Rattle.std.proofs.Common.{◌-◌, ◌≤◌, length}
use Rattle.trace_stream.proofs.moment.Moment.new.Given as goal

abbrev pub invariant-loop-values : goal.invariant-loop-values
invariant-loop-values l = length l.values.items ≤ l.ports

abbrev pub decreases-loop-values : goal.decreases-loop-values
decreases-loop-values l = l.ports - length l.values.items
