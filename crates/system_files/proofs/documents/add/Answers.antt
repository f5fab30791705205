use Rattle.system_files.proofs.documents.add.Goals as goal

pub returns : goal.returns
returns c = record { added = c.in_ok-nest.ensures; documents = c.in_ok-push.ensures.items }
