use Rattle.std.proofs.Common.{◌≡◌, take, replicate, None}
use Rattle.trace_stream.proofs.moment.Moment.begin.Given as goal

abbrev pub invariant-loop-value : goal.invariant-loop-value
invariant-loop-value l = take l.value-index l.value-items ≡ replicate l.value-index None
