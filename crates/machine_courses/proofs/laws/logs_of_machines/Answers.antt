use Rattle.machine_courses.proofs.RunLaw.{run_by_log}
use Rattle.machine_courses.proofs.TraceLaw.{trace_by_log, unmade_by_log}
use Rattle.machine_courses.proofs.laws.logs_of_machines.Goals as goal

pub returns : goal.returns
returns c = record {
  run = run_by_log;
  trace = trace_by_log;
  unmade = unmade_by_log;
}
