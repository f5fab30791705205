use Rattle.run_model.proofs.Behaves as B
use Rattle.run_model.proofs.laws.always_behaves.Goals as goal

pub returns : goal.returns
returns c = record { always = B.always_behaves; timed = B.timed_behaves }
