use Rattle.parameter_sets.proofs.LawLemmas.{in_range, one_set}
use Rattle.parameter_sets.proofs.law.one_set.Goals as goal

pub returns-clause-one : goal.returns-clause-one
returns-clause-one c = λ t at a b p q. one_set t at a b p q

pub returns-clause-range : goal.returns-clause-range
returns-clause-range c = λ t at a p. in_range t at a p
