use Rattle.std.proofs.Common.{◌≡◌, length}
use Rattle.trace_text.specs.Room.{AreValues}
use Rattle.tests_of_traces.proofs.text_tests.values_of.Given as goal

abbrev pub invariant-loop-k : goal.invariant-loop-k
invariant-loop-k l = AreValues l.values × (length l.values ≡ length l.rows)
