use Rattle.run_rows.proofs.Sound.{alarmed_sound}
use Rattle.run_rows.proofs.MachinesOf.{alarmed_machines}
use Rattle.run_rows.proofs.AlarmedTrace.{trace}
use Rattle.run_rows.proofs.Worked.{worked}
use Rattle.run_rows.proofs.rows.alarmed_trace.Goals as goal

pub returns : goal.returns
returns c = worked _ _ _ _ alarmed_sound alarmed_machines trace
