use Rattle.run_rows.proofs.Sound.{woken_sound}
use Rattle.run_rows.proofs.MachinesOf.{woken_machines}
use Rattle.run_rows.proofs.WokenTrace.{trace}
use Rattle.run_rows.proofs.Worked.{worked}
use Rattle.run_rows.proofs.rows.woken_trace.Goals as goal

pub returns : goal.returns
returns c = worked _ _ _ _ woken_sound woken_machines trace
