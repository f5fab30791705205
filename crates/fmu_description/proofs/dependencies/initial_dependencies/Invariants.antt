use Rattle.std.proofs.Common.{take}
use Rattle.std.specs.List.{AllZip}
use Rattle.fmu_description.specs.Description.{IsInitialDependency, outputs_among}
use Rattle.fmu_description.proofs.dependencies.initial_dependencies.Given as goal

abbrev pub invariant-loop-variable : goal.invariant-loop-variable
invariant-loop-variable l = AllZip (IsInitialDependency l.tree l.variables) (outputs_among (take l.variable-index l.variable-items)) l.dependencies.items
