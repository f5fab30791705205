use Rattle.fmu_description.proofs.OneLemmas.{one_shape}
use Rattle.fmu_description.proofs.law.one_description.Goals as goal

pub returns : goal.returns
returns c = λ t per_second one other sound p q. one_shape t per_second c.one_decimal.ensures sound one other p q
