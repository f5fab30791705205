use Rattle.std.proofs.Common.{take}
use Rattle.parameter_values.specs.Ready.{FindsBoolean}
use Rattle.parameter_values.proofs.ready.boolean_target.Given as goal

abbrev pub invariant-loop-pair : goal.invariant-loop-pair
invariant-loop-pair l = FindsBoolean (take l.pair-index l.pairs) l.source l.target
