use Rattle.run_rows.proofs.QuietLemmas.{quiet_answers_well, quiet_behaves}
use Rattle.run_rows.proofs.rows.quiet_laws.Goals as goal

pub returns : goal.returns
returns c = record { always = quiet_answers_well; run = quiet_behaves }
