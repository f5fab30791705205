use Rattle.transformations.proofs.ChangeLemmas.{one_change}
use Rattle.transformations.proofs.law.one_change.Goals as goal

pub returns : goal.returns
returns c = one_change
