use Rattle.run_rows.proofs.Sound.{samplers_sound}
use Rattle.run_rows.proofs.MachinesOf.{samplers_machines}
use Rattle.run_rows.proofs.SamplersTrace.{trace}
use Rattle.run_rows.proofs.Worked.{worked}
use Rattle.run_rows.proofs.rows.samplers_trace.Goals as goal

pub returns : goal.returns
returns c = worked _ _ _ _ samplers_sound samplers_machines trace
