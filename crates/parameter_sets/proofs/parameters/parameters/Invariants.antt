use Rattle.std.proofs.Common.{take}
use Rattle.std.specs.List.{AllZip}
use Rattle.parameter_sets.specs.Sets.{IsParameter}
use Rattle.parameter_sets.proofs.parameters.parameters.Given as goal

abbrev pub invariant-loop-node : goal.invariant-loop-node
invariant-loop-node l = AllZip (IsParameter l.tree) (take l.node-index l.nodes) l.found.items
