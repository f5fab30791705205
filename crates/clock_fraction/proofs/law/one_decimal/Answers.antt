use Rattle.clock_fraction.specs.Decimal.{number, raised, lowered}
use Rattle.clock_fraction.proofs.ShortestLemmas.{one_shortest}
use Rattle.clock_fraction.proofs.law.one_decimal.Goals as goal

pub returns : goal.returns
returns c = λ text one other p q. one_shortest (number text) (raised text) (lowered text) p.1.0 q.1.0 one other p.1.1 q.1.1
