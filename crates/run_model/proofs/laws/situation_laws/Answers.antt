use Rattle.run_model.proofs.AlongRun.{situation_at_beginning, situation_after_instant, situation_after_step, situation_reached}
use Rattle.run_model.proofs.laws.situation_laws.Goals as goal

pub returns : goal.returns
returns c = record {
  beginning = situation_at_beginning;
  instant = situation_after_instant;
  step = situation_after_step;
  along = λ r sound machines s reached. situation_reached sound machines reached;
}
