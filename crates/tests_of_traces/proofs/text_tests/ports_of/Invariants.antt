use Rattle.std.proofs.Common.{◌≡◌, vec_len}
use Rattle.tests_of_traces.proofs.text_tests.ports_of.Given as goal

abbrev pub invariant-loop-name : goal.invariant-loop-name
invariant-loop-name l = vec_len l.ports ≡ l.name-index
