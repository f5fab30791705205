use Rattle.std.specs.Prelude.{Some}
use Rattle.sim_base.specs.Folder.{file_at}
use Rattle.sim_base.proofs.ReadLemmas.{read_noted}
use Rattle.sim_base.proofs.folder.MemFolderFolder.read.Goals as goal

pub returns-clause-noted : goal.returns-clause-noted
returns-clause-noted c =
    read_noted (Some (file_at c.args.self.now.files)) c.args.self.now.book c.ask.new.self c.answer.new.self c.args.path.now c.answer.result
    c.in-Ok.ensures.ok c.answer.ensures.reads c.answer.ensures.faults
