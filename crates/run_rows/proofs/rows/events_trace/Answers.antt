use Rattle.run_rows.proofs.Sound.{events_sound}
use Rattle.run_rows.proofs.MachinesOf.{events_machines}
use Rattle.run_rows.proofs.EventsTrace.{trace}
use Rattle.run_rows.proofs.Worked.{worked}
use Rattle.run_rows.proofs.rows.events_trace.Goals as goal

pub returns : goal.returns
returns c = worked _ _ _ _ events_sound events_machines trace
