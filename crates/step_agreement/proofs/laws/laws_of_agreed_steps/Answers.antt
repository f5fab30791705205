use Rattle.step_agreement.proofs.Agreed.{agrees_by_log}
use Rattle.step_agreement.proofs.ByCount.{only_saved_go_back, sizes_fall_along}
use Rattle.step_agreement.proofs.Existence.{agrees_or_stops}
use Rattle.step_agreement.proofs.Machines.{agrees_over_machines}
use Rattle.step_agreement.proofs.laws.laws_of_agreed_steps.Goals as goal

pub returns : goal.returns
returns c = record {
  by_log = agrees_by_log;
  over_machines = agrees_over_machines;
  exists = agrees_or_stops;
  sizes_fall = sizes_fall_along;
  go_back = only_saved_go_back;
}
