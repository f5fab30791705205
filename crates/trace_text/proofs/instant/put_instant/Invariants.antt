use Rattle.std.proofs.Common.{◌≡◌, drop}
use Rattle.port_values.specs.Valued.{valued}
use Rattle.system_model.specs.Text.{instant_text, lines_text}
use Rattle.trace_text.proofs.RestLemmas.{StandsBut, entry_lines}
use Rattle.trace_text.proofs.instant.put_instant.Given as goal

-- the lines of those from the k-th on are still to be put, and the values stay
abbrev pub invariant-loop-k : goal.invariant-loop-k
invariant-loop-k l = record {
  stands : StandsBut (lines_text (entry_lines (drop l.k (valued l.fn.values)))) l.at l.out (instant_text l.t l.n l.fn.values);
  same : l.values ≡ l.fn.values;
}
