use Rattle.parameter_binding.proofs.LawLemmas.{one_bound}
use Rattle.parameter_binding.proofs.laws.binding_laws.Goals as goal

pub returns : goal.returns
returns c = record { values = one_bound }
