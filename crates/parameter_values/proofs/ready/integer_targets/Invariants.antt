use Rattle.std.proofs.Common.{ℤ, take}
use Rattle.std.specs.BTreeMap.{get}
use Rattle.std.specs.Ordering.{int_cmp}
use Rattle.parameter_values.specs.Ready.{FindsInteger}
use Rattle.parameter_values.proofs.ready.integer_targets.Given as goal

abbrev pub invariant-loop-pair : goal.invariant-loop-pair
invariant-loop-pair l = (x : ℤ) → FindsInteger (take l.pair-index l.pairs) x (get int_cmp l.targets x)
