use Rattle.std.proofs.Common.{◌≡◌, take}
use Rattle.parameter_values.proofs.change.copied.Given as goal

abbrev pub invariant-loop-pair : goal.invariant-loop-pair
invariant-loop-pair g l = l.items.items ≡ take l.pair-index l.pairs
