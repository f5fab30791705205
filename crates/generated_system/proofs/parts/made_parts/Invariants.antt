use Rattle.generated_system.proofs.Making.{IsMade}
use Rattle.generated_system.proofs.parts.made_parts.Given as goal

abbrev pub invariant-loop-number : goal.invariant-loop-number
invariant-loop-number l = IsMade l.fn.seed l.number l.draws.number l.parts
