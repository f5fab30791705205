use Rattle.parameter_binding.specs.Walk.{IsGatheredTo}
use Rattle.parameter_binding.proofs.walk.Walk.put_plain.Given as goal

abbrev pub invariant-loop-place : goal.invariant-loop-place
invariant-loop-place l = IsGatheredTo l.self l.b 0 l.place l.gathered
