use Rattle.parameter_targets.specs.Tables.{AreDepths}
use Rattle.parameter_targets.proofs.levels.Levels.of.Given as goal

abbrev pub invariant-loop-part : goal.invariant-loop-part
invariant-loop-part l = AreDepths l.tree l.part-index l.depths.items
