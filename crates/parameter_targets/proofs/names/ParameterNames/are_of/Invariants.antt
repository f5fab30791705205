use Rattle.std.proofs.Common.{◌≤◌, length, take}
use Rattle.parameter_targets.proofs.NameLemmas.{AreEntriesBelow}
use Rattle.parameter_targets.proofs.names.ParameterNames.are_of.Given as goal

abbrev pub invariant-loop-place : goal.invariant-loop-place
invariant-loop-place l = record {
  within : l.next ≤ length l.entries;
  below : AreEntriesBelow l.variables l.place (take l.next l.entries);
}
