use Rattle.run_rows.proofs.Sound.{relayed_sound}
use Rattle.run_rows.proofs.MachinesOf.{relayed_machines}
use Rattle.run_rows.proofs.RelayedTrace.{trace}
use Rattle.run_rows.proofs.Worked.{worked}
use Rattle.run_rows.proofs.rows.relayed_trace.Goals as goal

pub returns : goal.returns
returns c = worked _ _ _ _ relayed_sound relayed_machines trace
