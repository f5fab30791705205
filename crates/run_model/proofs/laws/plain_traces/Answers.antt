use Rattle.run_model.proofs.PlainTraces.{plain_traces}
use Rattle.run_model.proofs.laws.plain_traces.Goals as goal

pub returns : goal.returns
returns c = plain_traces
