use Rattle.std.proofs.Common.{refl, sym, subst}
use Rattle.fmu_host.specs.declared.hosting.HostEnd.{HostEnd}
use Rattle.fmu_host.specs.Description.{LacksShape}
use Rattle.fmu_host.specs.Line.{line_of}
use Rattle.fmu_host.proofs.ReadLemmas.{is_read, refused}
use Rattle.fmu_host.proofs.hosting.read_model.Goals as goal

pub returns-in-Ok-read_shape-clause-ok : goal.returns-in-Ok-read_shape-clause-ok
returns-in-Ok-read_shape-clause-ok g c =
    let line = line_of c.args.line in
    is_read line (g.F.Folder.view c.args.folder.now) (g.F.Folder.view c.read_description.new.folder) c.in-Ok.bytes c.as_slice.result.now c.in-Ok-read_shape.shape c.as_slice.ensures
    (c.in-Ok.ensures.ok line refl) c.in-Ok-read_shape.ensures.ok

pub returns-in-Ok-clause-err : goal.returns-in-Ok-clause-err
returns-in-Ok-clause-err g c =
    let line = line_of c.args.line in
    let old = g.F.Folder.view c.args.folder.now in
    let new = g.F.Folder.view c.read_description.new.folder in
    subst (λ (e : HostEnd). LacksShape e line old new) (sym c.refused_end.ensures)
    (refused line old new c.in-Ok.bytes c.as_slice.result.now c.in-Err-read_shape.fault c.as_slice.ensures (c.in-Ok.ensures.ok line refl) c.in-Err-read_shape.ensures.err)
