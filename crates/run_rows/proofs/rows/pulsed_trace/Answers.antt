use Rattle.run_rows.proofs.Sound.{pulsed_sound}
use Rattle.run_rows.proofs.MachinesOf.{pulsed_machines}
use Rattle.run_rows.proofs.PulsedTrace.{trace}
use Rattle.run_rows.proofs.Worked.{worked}
use Rattle.run_rows.proofs.rows.pulsed_trace.Goals as goal

pub returns : goal.returns
returns c = worked _ _ _ _ pulsed_sound pulsed_machines trace
