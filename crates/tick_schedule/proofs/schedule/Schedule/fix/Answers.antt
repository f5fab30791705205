use Rattle.std.proofs.Common.{arith}
use Rattle.std.proofs.lemmas.Option.{slice_get_within}
use Rattle.tick_schedule.proofs.schedule.Schedule.fix.Goals as goal

pub set-requires-clause-clock : goal.set-requires-clause-clock
set-requires-clause-clock g c = slice_get_within _ _ _ c.requires.unasked

pub set-requires-clause-near : goal.set-requires-clause-near
set-requires-clause-near g c = (c.requires.shift, omega arith)
