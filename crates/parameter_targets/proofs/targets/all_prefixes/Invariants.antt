use Rattle.parameter_targets.specs.Tables.{AreAllPrefixes}
use Rattle.parameter_targets.proofs.targets.all_prefixes.Given as goal

abbrev pub invariant-loop-system : goal.invariant-loop-system
invariant-loop-system l = AreAllPrefixes l.paths l.system l.prefixes.items
