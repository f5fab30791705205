use Rattle.std.proofs.Common.{take}
use Rattle.std.specs.List.{AllZip}
use Rattle.fmu_description.specs.Description.{IsTimingOf, clocks_among}
use Rattle.fmu_description.proofs.timings.timings.Given as goal

abbrev pub invariant-loop-variable : goal.invariant-loop-variable
invariant-loop-variable l = AllZip (IsTimingOf l.tree) (clocks_among (take l.variable-index l.variables)) l.timings.items
