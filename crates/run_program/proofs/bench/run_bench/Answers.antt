use Rattle.std.proofs.Common.{refl, sym, ◌∙◌}
use Rattle.command_line.specs.Line.{bench_of}
use Rattle.run_program.specs.Bench.{unkept}
use Rattle.run_program.specs.Happened.{scene}
use Rattle.run_program.proofs.Finishing.{counted, ran_generated, unbegun, unfinished}
use Rattle.run_program.proofs.Generated.{has_none, same_task, task_by}
use Rattle.run_program.proofs.bench.run_bench.Goals as goal

pub run_system-report-requires-clause-folders : goal.run_system-report-requires-clause-folders
run_system-report-requires-clause-folders g c κs within =
    has_none (bench_of c.args.options) c.in-Ok.loaded.folders c.in-Ok.loaded.system c.in-Ok.ensures.folders c.in-Ok.ensures.system

pub returns-then-has_finished : goal.returns-then-has_finished
returns-then-has_finished g c =
    let line = bench_of c.args.options in
    let loaded = c.in-Ok.loaded in
    let ran = c.run_system-report.result in
    let plan = c.bench_plan.result in
    let old = scene (g.S.Spawner.view c.args.spawner.now) (g.O.Sink.view c.args.out.now) in
    let new = scene (g.S.Spawner.view c.run_system-report.new.spawner) (g.O.Sink.view c.tell_numbers.new.out) in
    counted line ran.numbers old new ran.report.outcome (sym c.has_finished.ensures ∙ c.if-has_finished.true)
    (ran_generated line (task_by plan loaded.bound loaded.folders) loaded.system ran.report.outcome ran.numbers (unkept old) (unkept new)
    (same_task line plan loaded.bound loaded.folders c.bench_plan.ensures c.in-Ok.ensures.bound c.in-Ok.ensures.folders) c.in-Ok.ensures.system c.run_system-report.ensures)
    c.tell_numbers.result.outcome c.tell_numbers.ensures

pub returns-else-has_finished : goal.returns-else-has_finished
returns-else-has_finished g c =
    let line = bench_of c.args.options in
    let loaded = c.in-Ok.loaded in
    let ran = c.run_system-report.result in
    let plan = c.bench_plan.result in
    let old = scene (g.S.Spawner.view c.args.spawner.now) (g.O.Sink.view c.args.out.now) in
    let new = scene (g.S.Spawner.view c.run_system-report.new.spawner) (g.O.Sink.view c.args.out.now) in
    unfinished line ran.numbers old new ran.report.outcome (sym c.has_finished.ensures ∙ c.if-has_finished.false) refl
    (ran_generated line (task_by plan loaded.bound loaded.folders) loaded.system ran.report.outcome ran.numbers (unkept old) (unkept new)
    (same_task line plan loaded.bound loaded.folders c.bench_plan.ensures c.in-Ok.ensures.bound c.in-Ok.ensures.folders) c.in-Ok.ensures.system c.run_system-report.ensures)

pub returns-in-Err : goal.returns-in-Err
returns-in-Err g c =
    unbegun (bench_of c.args.options) c.memory.result.outcome (scene (g.S.Spawner.view c.args.spawner.now) (g.O.Sink.view c.args.out.now)) c.memory.ensures
