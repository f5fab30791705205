use Rattle.parameter_binding.specs.Walk.{AreValues}
use Rattle.parameter_binding.proofs.bound.component_values.Given as goal

abbrev pub invariant-loop-variable : goal.invariant-loop-variable
invariant-loop-variable l = AreValues l.winners l.component l.variable l.values.items
