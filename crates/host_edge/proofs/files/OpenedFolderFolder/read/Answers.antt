use Rattle.std.specs.Prelude.{None, ◌∷◌, []}
use Rattle.sim_base.specs.ReadNotes.{read_of}
use Rattle.sim_base.proofs.ReadLemmas.{read_kept, read_noted}
use Rattle.host_edge.proofs.files.OpenedFolderFolder.read.Goals as goal

pub returns-clause-noted : goal.returns-clause-noted
returns-clause-noted g c =
    read_noted None c.args.self.now.book c.ask.new.self c.answer.new.self c.args.path.now c.answer.result c.in-Ok.ensures.ok c.answer.ensures.reads c.answer.ensures.faults

pub returns-clause-opened : goal.returns-clause-opened
returns-clause-opened g c =
    let answer = c.answer.result in (
      read_of c.args.path.now answer ∷ [],
      read_kept c.args.self.now.book c.ask.new.self c.answer.new.self c.args.path.now answer c.in-Ok.ensures.ok c.answer.ensures.reads,
      c.open-opened.ensures,
    )
