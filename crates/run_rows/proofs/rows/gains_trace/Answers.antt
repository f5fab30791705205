use Rattle.run_rows.proofs.Sound.{gains_sound}
use Rattle.run_rows.proofs.MachinesOf.{gains_machines}
use Rattle.run_rows.proofs.GainsTrace.{trace}
use Rattle.run_rows.proofs.Worked.{worked}
use Rattle.run_rows.proofs.rows.gains_trace.Goals as goal

pub returns : goal.returns
returns c = worked _ _ _ _ gains_sound gains_machines trace
