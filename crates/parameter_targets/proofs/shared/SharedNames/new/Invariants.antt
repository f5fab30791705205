use Rattle.std.proofs.Common.{take}
use Rattle.parameter_targets.specs.Tables.{AreAllNames}
use Rattle.parameter_targets.proofs.shared.SharedNames.new.Given as goal

abbrev pub invariant-loop-place : goal.invariant-loop-place
invariant-loop-place l = AreAllNames (take l.place l.shapes) l.names.tables.items l.names.of.items
