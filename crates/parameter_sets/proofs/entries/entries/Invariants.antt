use Rattle.std.proofs.Common.{take}
use Rattle.std.specs.List.{AllZip}
use Rattle.parameter_sets.specs.Sets.{IsEntry}
use Rattle.parameter_sets.proofs.entries.entries.Given as goal

abbrev pub invariant-loop-node : goal.invariant-loop-node
invariant-loop-node l = AllZip (IsEntry l.tree) (take l.node-index l.nodes) l.found.items
