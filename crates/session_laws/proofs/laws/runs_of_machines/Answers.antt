use Rattle.session_laws.proofs.Told.{told_failed_start, told_run, told_trace}
use Rattle.session_laws.proofs.ToldRests.{told_held, told_none, told_rest}
use Rattle.session_laws.proofs.ToldWell.{told_held_well, told_rest_well}
use Rattle.session_laws.proofs.laws.runs_of_machines.Goals as goal

pub returns : goal.returns
returns c = record {
  run = told_run c.logs_of_machines.ensures.run;
  trace = told_trace c.logs_of_machines.ensures.trace;
  unmade = told_failed_start c.logs_of_machines.ensures.unmade;
  held = told_held c.logs_of_rests.ensures.held;
  held_well = told_held_well c.logs_of_rests.ensures.held_well;
  none = told_none c.logs_of_rests.ensures.none;
  rest = told_rest c.logs_of_rests.ensures.rest c.logs_of_rests.ensures.stands;
  rest_well = told_rest_well c.logs_of_rests.ensures.rest_well c.logs_of_rests.ensures.stands;
}
