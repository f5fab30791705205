use Rattle.host_edge.proofs.ReadLemmas.{read_failed, read_told}
use Rattle.host_edge.proofs.files.read_within.Goals as goal

pub returns-in-Ok-clause-told : goal.returns-in-Ok-clause-told
returns-in-Ok-clause-told g c =
    let read = rw (c.new-bytes.ensures.items, c.saturating_add.ensures) at c.in-Ok.ensures in
    read_told (g.S.OpenedFile.view c.args.source.now) (g.S.OpenedFile.view c.read_up_to.new.self) c.args.limit c.read_up_to.new.bytes _ read.0 read.1 c.within.ensures.fits c.within.ensures.big

pub returns-in-Err-clause-told : goal.returns-in-Err-clause-told
returns-in-Err-clause-told g c =
    read_failed (g.S.OpenedFile.view c.args.source.now) (g.S.OpenedFile.view c.read_up_to.new.self) c.args.limit _ c.in-Err.ensures _ c.read_fault.ensures
