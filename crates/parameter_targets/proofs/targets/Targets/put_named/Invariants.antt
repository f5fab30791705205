use Rattle.std.proofs.Common.{take}
use Rattle.std.specs.List.{Contains}
use Rattle.parameter_targets.proofs.TargetLemmas.{PutsTargets}
use Rattle.parameter_targets.proofs.targets.Targets.put_named.Given as goal

abbrev pub invariant-loop-variable : goal.invariant-loop-variable
invariant-loop-variable l = PutsTargets l.fn.seen.items l.seen.items l.component (Contains (take l.variable-index l.variable-items))
