use Rattle.parameter_targets.proofs.NameLemmas.{AreEntriesBelow}
use Rattle.parameter_targets.proofs.names.entries_of.Given as goal

abbrev pub invariant-loop-place : goal.invariant-loop-place
invariant-loop-place l = AreEntriesBelow l.variables l.place l.entries.items
