use Rattle.std.proofs.Common.{length}
use Rattle.parameter_targets.specs.Tables.{AreWalked}
use Rattle.parameter_targets.proofs.ChainLemmas.{left}
use Rattle.parameter_targets.proofs.names.ParameterNames.places_of.Given as goal

abbrev pub invariant-loop-next : goal.invariant-loop-next
invariant-loop-next l = AreWalked l.self.entries.items l.name l.places.items l.next

abbrev pub decreases-loop-next : goal.decreases-loop-next
decreases-loop-next l = left (length l.self.entries.items) l.next
