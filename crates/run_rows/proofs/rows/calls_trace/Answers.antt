use Rattle.run_rows.proofs.Sound.{calls_sound}
use Rattle.run_rows.proofs.MachinesOf.{calls_machines}
use Rattle.run_rows.proofs.CallsTrace.{trace}
use Rattle.run_rows.proofs.Worked.{worked}
use Rattle.run_rows.proofs.rows.calls_trace.Goals as goal

pub returns : goal.returns
returns c = worked _ _ _ _ calls_sound calls_machines trace
