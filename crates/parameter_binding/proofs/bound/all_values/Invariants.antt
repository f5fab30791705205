use Rattle.parameter_binding.specs.Walk.{AreAllValues}
use Rattle.parameter_binding.proofs.bound.all_values.Given as goal

abbrev pub invariant-loop-component : goal.invariant-loop-component
invariant-loop-component l = AreAllValues l.shapes l.winners l.component l.components.items
