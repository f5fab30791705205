use Rattle.run_rows.proofs.Sound.{timer_sound}
use Rattle.run_rows.proofs.MachinesOf.{timer_machines}
use Rattle.run_rows.proofs.TimerTrace.{trace}
use Rattle.run_rows.proofs.Worked.{worked}
use Rattle.run_rows.proofs.rows.timer_trace.Goals as goal

pub returns : goal.returns
returns c = worked _ _ _ _ timer_sound timer_machines trace
