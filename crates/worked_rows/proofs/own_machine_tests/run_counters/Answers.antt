use Rattle.worked_rows.proofs.ChainSound.{chain_sound, chain_unbound}
use Rattle.worked_rows.proofs.own_machine_tests.run_counters.Goals as goal

pub run_system-requires-clause-sound : goal.run_system-requires-clause-sound
run_system-requires-clause-sound g c κs within = chain_sound c.in-Ok.system c.in-Ok.ensures

pub run_system-requires-clause-bound : goal.run_system-requires-clause-bound
run_system-requires-clause-bound g c κs within = chain_unbound c.in-Ok.system c.in-Ok-make_unbound.bound c.in-Ok.ensures c.in-Ok-make_unbound.ensures
