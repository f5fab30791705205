use Rattle.std.proofs.Common.{take}
use Rattle.std.specs.List.{AllZip}
use Rattle.fmu_description.specs.Description.{IsDependency, outputs_among}
use Rattle.fmu_description.proofs.dependencies.dependencies.Given as goal

abbrev pub invariant-loop-variable : goal.invariant-loop-variable
invariant-loop-variable l = AllZip (IsDependency l.tree l.variables) (outputs_among (take l.variable-index l.variable-items)) l.dependencies.items
