use Rattle.std.proofs.Common.{take}
use Rattle.std.specs.List.{AllZip}
use Rattle.transformations.specs.Changes.{IsBooleanPair}
use Rattle.transformations.proofs.change.boolean_pairs.Given as goal

abbrev pub invariant-loop-node : goal.invariant-loop-node
invariant-loop-node l = AllZip (IsBooleanPair l.tree) (take l.node-index l.entries) l.pairs.items
