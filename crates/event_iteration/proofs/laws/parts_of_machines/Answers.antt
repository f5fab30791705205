use Rattle.event_iteration.proofs.ByLog.{fixed_by_log, initial_by_log, instant_by_log, intervals_by_log, sets_by_log, updates_by_log}
use Rattle.event_iteration.proofs.laws.parts_of_machines.Goals as goal

pub returns : goal.returns
returns c = record {
  initial = initial_by_log;
  fixed = fixed_by_log;
  instant = instant_by_log;
  intervals = intervals_by_log;
  updates = updates_by_log;
  sets = sets_by_log;
}
