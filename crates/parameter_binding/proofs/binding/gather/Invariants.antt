use Rattle.parameter_binding.specs.Walk.{IsGathered, triple_at}
use Rattle.parameter_binding.proofs.binding.gather.Given as goal

abbrev pub invariant-loop-b : goal.invariant-loop-b
invariant-loop-b l = IsGathered l.tree l.shapes l.sets (triple_at l.b 0 0) l.gathered
