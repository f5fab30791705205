use Rattle.std.proofs.Common.{◌≡◌, map, take}
use Rattle.parameter_targets.specs.Tables.{text_of}
use Rattle.parameter_binding.specs.Walk.{names_in}
use Rattle.parameter_binding.proofs.walk.names_of.Given as goal

abbrev pub invariant-loop-place : goal.invariant-loop-place
invariant-loop-place l = map text_of l.entries.items ≡ names_in (take l.place l.parameters)
