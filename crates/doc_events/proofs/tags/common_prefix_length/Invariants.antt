use Rattle.std.proofs.Common.{◌≡◌, ◌+◌, drop}
use Rattle.doc_grammar.specs.Machine.{common_prefix_length}
use Rattle.doc_events.proofs.tags.common_prefix_length.Given as goal

abbrev pub invariant-loop-i : goal.invariant-loop-i
invariant-loop-i l = common_prefix_length l.a l.b ≡ l.i + common_prefix_length (drop l.i l.a) (drop l.i l.b)
