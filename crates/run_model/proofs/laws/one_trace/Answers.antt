use Rattle.run_model.proofs.OneTrace.{trace_same}
use Rattle.run_model.proofs.laws.one_trace.Goals as goal

pub returns : goal.returns
returns c = trace_same
