use Rattle.tick_schedule.proofs.PointLemmas.{resumes_above}
use Rattle.tick_schedule.proofs.laws.resumed_ticks.Goals as goal

pub returns : goal.returns
returns c = resumes_above
