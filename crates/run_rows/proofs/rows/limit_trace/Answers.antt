use Rattle.run_rows.proofs.Sound.{limit_sound}
use Rattle.run_rows.proofs.MachinesOf.{limit_machines}
use Rattle.run_rows.proofs.LimitTrace.{trace}
use Rattle.run_rows.proofs.Worked.{worked}
use Rattle.run_rows.proofs.rows.limit_trace.Goals as goal

pub returns : goal.returns
returns c = worked _ _ _ _ limit_sound limit_machines trace
