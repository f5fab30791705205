use Rattle.parameter_targets.specs.Tables.{ArePathsBelow}
use Rattle.parameter_targets.proofs.paths.Paths.of.Given as goal

abbrev pub invariant-loop-component : goal.invariant-loop-component
invariant-loop-component l = ArePathsBelow l.tree l.component l.paths
