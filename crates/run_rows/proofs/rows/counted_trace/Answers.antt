use Rattle.run_rows.proofs.Sound.{counted_sound}
use Rattle.run_rows.proofs.MachinesOf.{counted_machines}
use Rattle.run_rows.proofs.CountedTrace.{trace}
use Rattle.run_rows.proofs.Worked.{worked}
use Rattle.run_rows.proofs.rows.counted_trace.Goals as goal

pub returns : goal.returns
returns c = worked _ _ _ _ counted_sound counted_machines trace
