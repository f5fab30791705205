use Rattle.worked_rows.proofs.TickingSound.{ticking_sound, ticking_unbound}
use Rattle.worked_rows.proofs.own_machine_tests.run_tickers.Goals as goal

pub run_system-requires-clause-sound : goal.run_system-requires-clause-sound
run_system-requires-clause-sound g c κs within = ticking_sound c.in-Ok.system c.in-Ok.ensures

pub run_system-requires-clause-bound : goal.run_system-requires-clause-bound
run_system-requires-clause-bound g c κs within = ticking_unbound c.in-Ok.system c.in-Ok-make_unbound.bound c.in-Ok.ensures c.in-Ok-make_unbound.ensures
