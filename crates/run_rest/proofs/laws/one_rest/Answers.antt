use Rattle.run_rest.proofs.Resuming.{one_rest}
use Rattle.run_rest.proofs.laws.one_rest.Goals as goal

pub returns : goal.returns
returns c = one_rest c.one_trace.ensures
