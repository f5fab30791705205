use Rattle.std.proofs.Common.{◌≡◌, Some, drop}
use Rattle.trace_check.proofs.ValueLemmas.{put_lines}
use Rattle.trace_check.proofs.reading.put_values.Given as goal

abbrev pub invariant-loop-line : goal.invariant-loop-line
invariant-loop-line l = put_lines Some (drop l.line-index l.told) l.values.items ≡ put_lines Some l.told l.fn.values.items
