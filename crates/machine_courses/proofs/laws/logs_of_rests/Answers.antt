use Rattle.machine_courses.proofs.EarlyLaw.{early_has_none}
use Rattle.machine_courses.proofs.HeldLaw.{held_by_log}
use Rattle.machine_courses.proofs.HeldWell.{held_well_by_log}
use Rattle.machine_courses.proofs.RestLaw.{rest_by_log, rest_well_by_log, snapshots_stand}
use Rattle.machine_courses.proofs.laws.logs_of_rests.Goals as goal

pub returns : goal.returns
returns c = record {
  held = held_by_log;
  held_well = held_well_by_log;
  none = early_has_none c.splits.ensures c.steps_in_two.ensures;
  stands = snapshots_stand;
  rest = rest_by_log;
  rest_well = rest_well_by_log;
}
