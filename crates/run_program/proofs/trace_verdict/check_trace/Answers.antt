use Rattle.std.proofs.Common.{refl}
use Rattle.command_line.specs.Line.{trace_of}
use Rattle.trace_judging.specs.Judging.{Gives}
use Rattle.run_program.specs.TraceCheck.{Judges}
use Rattle.run_program.proofs.TraceRows.{refused}
use Rattle.run_program.proofs.trace_verdict.check_trace.Goals as goal

pub returns-in-Ok : goal.returns-in-Ok
returns-in-Ok g c = λ words spawner.
    Judges (Gives c.in-Ok.verdict) c.in-Ok.ensures.ok (c.tell_verdict.ensures words (g.F.Folder.view c.args.folder.now) (g.F.Folder.view c.judge.new.folder) spawner)

pub returns-in-Err : goal.returns-in-Err
returns-in-Err g c = λ words spawner. refused _ (trace_of c.args.options) c.in-Err.end c.refuse.result.outcome c.in-Err.ensures.err c.refuse.ensures refl c.put.ensures
