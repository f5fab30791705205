use Rattle.parameter_binding.specs.Walk.{IsGatheredTo}
use Rattle.parameter_binding.proofs.walk.Walk.put_mapped.Given as goal

abbrev pub invariant-loop-e : goal.invariant-loop-e
invariant-loop-e l = IsGatheredTo l.self l.b l.e 0 l.gathered
