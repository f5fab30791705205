use Rattle.ssd_tree.proofs.reader.read_document.Goals as goal

pub document-requires-clause-sound : goal.document-requires-clause-sound
document-requires-clause-sound c =
    (c.in-Ok.indexed.setting, rw c.in-Ok-None.field-0-is at c.in-Ok-None.ensures)
