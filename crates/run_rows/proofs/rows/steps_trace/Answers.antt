use Rattle.run_rows.proofs.Sound.{steps_sound}
use Rattle.run_rows.proofs.MachinesOf.{steps_machines}
use Rattle.run_rows.proofs.StepsTrace.{trace}
use Rattle.run_rows.proofs.Worked.{worked}
use Rattle.run_rows.proofs.rows.steps_trace.Goals as goal

pub returns : goal.returns
returns c = worked _ _ _ _ steps_sound steps_machines trace
