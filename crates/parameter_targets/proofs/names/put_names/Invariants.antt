use Rattle.std.proofs.Common.{take}
use Rattle.parameter_targets.proofs.NameLemmas.{IsCalledBy, PutsNames}
use Rattle.parameter_targets.proofs.names.put_names.Given as goal

abbrev pub invariant-loop-alias : goal.invariant-loop-alias
invariant-loop-alias l = PutsNames l.fn.entries.items l.entries.items l.place (IsCalledBy l.variable (take l.alias-index l.variable.aliases))
