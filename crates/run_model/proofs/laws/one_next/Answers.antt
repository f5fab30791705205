use Rattle.run_model.proofs.OneTrace.{leads_same}
use Rattle.run_model.proofs.laws.one_next.Goals as goal

pub returns : goal.returns
returns c = leads_same
