use Rattle.std.proofs.Common.{drop, refl, sym, subst}
use Rattle.std.specs.Prelude.{IfOk}
use Rattle.std.specs.Vec.Iter.{into_iter_items}
use Rattle.command_line.specs.Line.{texts}
use Rattle.run_program.specs.Happened.{happened, outside}
use Rattle.run_program.specs.TraceCheck.{KeepsRows}
use Rattle.run_program.proofs.TraceRows.{unread_rows}
use Rattle.run_program.proofs.args.run_args.Goals as goal

pub returns-in-Err-words_after-clause-given : goal.returns-in-Err-words_after-clause-given
returns-in-Err-words_after-clause-given g c =
    let here = outside (g.F.Folder.view c.args.folder.now) (g.S.Spawner.view c.args.spawner.now) (g.O.Sink.view c.args.out.now) in
    let words = texts (drop 1 (into_iter_items c.in-Ok.given)) in
    let err = g.E.Sink.view c.args.err.now in
    let err_after = g.E.Sink.view c.put.new.err in
    subst (λ a. IfOk a (λ given. KeepsRows (happened (texts (drop 1 (into_iter_items given))) here here err err_after c.put.result))) (sym c.in-Ok.is)
    (unread_rows c.built_in_runs.ensures.behaves c.memory.result.outcome (happened words here here err err_after c.put.result) c.memory.ensures refl c.put.ensures)
