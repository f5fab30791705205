use Rattle.std.proofs.lemmas.Option.{slice_get_within}
use Rattle.tick_schedule.proofs.schedule.Schedule.disarm.Goals as goal

pub set-requires-clause-clock : goal.set-requires-clause-clock
set-requires-clause-clock g c = slice_get_within _ _ _ c.requires.1
