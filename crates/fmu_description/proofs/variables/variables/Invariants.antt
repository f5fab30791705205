use Rattle.std.proofs.Common.{filter}
use Rattle.std.specs.List.{AllZip, range_with_len}
use Rattle.fmu_description.specs.Elements.{is_variable}
use Rattle.fmu_description.specs.Description.{IsVariable}
use Rattle.fmu_description.proofs.variables.variables.Given as goal

abbrev pub invariant-loop-node : goal.invariant-loop-node
invariant-loop-node l = AllZip (IsVariable l.tree) (filter (is_variable l.tree) (range_with_len 0 l.node)) l.variables.items
