use Rattle.std.proofs.Common.{◌≡◌, take}
use Rattle.std.specs.List.{flat_map}
use Rattle.transformations.specs.Elements.{transformations_of}
use Rattle.parameter_sets.proofs.elements.transformations.Given as goal

abbrev pub invariant-loop-node : goal.invariant-loop-node
invariant-loop-node l = l.found.items ≡ flat_map (transformations_of l.tree) (take l.node-index l.entries)
