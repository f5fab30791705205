use Rattle.std.proofs.Common.{length}
use Rattle.parameter_targets.proofs.CallerLemmas.{left}
use Rattle.parameter_binding.specs.Walk.{IsAtNext, names_in}
use Rattle.parameter_binding.proofs.walk.Walk.put_named.Given as goal

abbrev pub invariant-loop-next : goal.invariant-loop-next
invariant-loop-next l = IsAtNext l.self l.b l.e l.binding l.given l.entry l.next l.gathered

abbrev pub decreases-loop-next : goal.decreases-loop-next
decreases-loop-next l = left (length (names_in l.given.values.set.parameters)) l.next
