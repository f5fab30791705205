use Rattle.parameter_sets.proofs.LawLemmas.{one_mapping}
use Rattle.parameter_sets.proofs.law.one_mapping.Goals as goal

pub returns : goal.returns
returns c = λ t at a b p q. one_mapping t at a b p q
