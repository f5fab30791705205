use Rattle.bench_fmus.proofs.ReadLemmas.{read_back}
use Rattle.bench_fmus.proofs.laws.states_read_back.Goals as goal

pub returns : goal.returns
returns c = read_back
