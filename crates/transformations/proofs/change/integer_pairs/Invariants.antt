use Rattle.std.proofs.Common.{take}
use Rattle.std.specs.List.{AllZip}
use Rattle.transformations.specs.Changes.{IsIntegerPair}
use Rattle.transformations.proofs.change.integer_pairs.Given as goal

abbrev pub invariant-loop-node : goal.invariant-loop-node
invariant-loop-node l = AllZip (IsIntegerPair l.tree) (take l.node-index l.entries) l.pairs.items
