use Rattle.run_rows.proofs.Sound.{ticks_sound}
use Rattle.run_rows.proofs.MachinesOf.{ticks_machines}
use Rattle.run_rows.proofs.TicksTrace.{trace}
use Rattle.run_rows.proofs.Worked.{worked}
use Rattle.run_rows.proofs.rows.ticks_trace.Goals as goal

pub returns : goal.returns
returns c = worked _ _ _ _ ticks_sound ticks_machines trace
