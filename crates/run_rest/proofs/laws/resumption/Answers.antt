use Rattle.run_rest.proofs.Resuming.{resumption}
use Rattle.run_rest.proofs.laws.resumption.Goals as goal

pub returns : goal.returns
returns c = resumption c.one_trace.ensures
