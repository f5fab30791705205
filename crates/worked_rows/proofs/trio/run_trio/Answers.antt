use Rattle.worked_rows.proofs.TrioSound.{trio_binds, trio_sound}
use Rattle.worked_rows.proofs.trio.run_trio.Goals as goal

pub run_system-requires-clause-sound : goal.run_system-requires-clause-sound
run_system-requires-clause-sound g c κs within = trio_sound c.in-Ok.system c.in-Ok.ensures

pub run_system-requires-clause-bound : goal.run_system-requires-clause-bound
run_system-requires-clause-bound g c κs within = trio_binds c.in-Ok.system c.in-Ok-make_bound.bound c.in-Ok.ensures c.in-Ok-make_bound.ensures
