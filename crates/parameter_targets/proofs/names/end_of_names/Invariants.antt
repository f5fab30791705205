use Rattle.std.proofs.Common.{◌≤◌, length, take}
use Rattle.parameter_targets.proofs.NameLemmas.{IsCalledBy, PutsNames}
use Rattle.parameter_targets.proofs.names.end_of_names.Given as goal

abbrev pub invariant-loop-alias : goal.invariant-loop-alias
invariant-loop-alias l = record {
  within : l.end ≤ length l.entries;
  puts : PutsNames (take l.next l.entries) (take l.end l.entries) l.place (IsCalledBy l.variable (take l.alias-index l.variable.aliases));
}
