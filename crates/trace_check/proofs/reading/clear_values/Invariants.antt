use Rattle.std.proofs.Common.{◌≡◌, drop}
use Rattle.trace_check.proofs.ValueLemmas.{no_value, put_lines}
use Rattle.trace_check.proofs.reading.clear_values.Given as goal

abbrev pub invariant-loop-line : goal.invariant-loop-line
invariant-loop-line l = put_lines no_value (drop l.line-index l.told) l.values.items ≡ put_lines no_value l.told l.fn.values.items
