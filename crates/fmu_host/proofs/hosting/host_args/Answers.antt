use Rattle.std.proofs.Common.{drop, refl, sym, subst}
use Rattle.std.specs.Prelude.{IfOk}
use Rattle.std.specs.Vec.Iter.{into_iter_items}
use Rattle.command_line.specs.Line.{texts}
use Rattle.fmu_host.specs.declared.hosting.HostEnd.TheVariants as H
use Rattle.fmu_host.specs.Facts.{Unbegun}
use Rattle.fmu_host.specs.Happened.{happened, outside}
use Rattle.fmu_host.specs.Rows.{KeepsRows}
use Rattle.fmu_host.proofs.Rows.{keeps_rows}
use Rattle.fmu_host.proofs.hosting.host_args.Goals as goal

pub returns-in-Err-words_after-clause-given : goal.returns-in-Err-words_after-clause-given
returns-in-Err-words_after-clause-given g c =
    let here = outside (g.F.Folder.view c.args.folder.now) (g.I.Source.view c.args.input.now) (g.O.Sink.view c.args.output.now) in
    let words = texts (drop 1 (into_iter_items c.in-Ok.given)) in
    subst (λ a. IfOk a (λ given. KeepsRows (happened (texts (drop 1 (into_iter_items given))) here here c.status.result))) (sym c.in-Ok.is)
    (keeps_rows H.Memory (happened words here here c.status.result) (Unbegun refl refl) c.status.ensures)
