use Rattle.run_rows.proofs.Sound.{fixed_sound}
use Rattle.run_rows.proofs.MachinesOf.{fixed_machines}
use Rattle.run_rows.proofs.FixedTrace.{trace}
use Rattle.run_rows.proofs.Worked.{worked}
use Rattle.run_rows.proofs.rows.fixed_trace.Goals as goal

pub returns : goal.returns
returns c = worked _ _ _ _ fixed_sound fixed_machines trace
