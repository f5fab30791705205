use Rattle.alike_runs.proofs.Alike.{behave_alike, held_alike, puts_alike, read_back_alike, takes_alike, trace_alike}
use Rattle.alike_runs.proofs.laws.orders_and_workers_are_free.Goals as goal

pub returns-clause-trace : goal.returns-clause-trace
returns-clause-trace c = trace_alike

pub returns-clause-behaved : goal.returns-clause-behaved
returns-clause-behaved c = behave_alike

pub returns-clause-held : goal.returns-clause-held
returns-clause-held c = held_alike

pub returns-clause-read_back : goal.returns-clause-read_back
returns-clause-read_back c = read_back_alike

pub returns-clause-puts : goal.returns-clause-puts
returns-clause-puts c = puts_alike

pub returns-clause-takes : goal.returns-clause-takes
returns-clause-takes c = takes_alike
