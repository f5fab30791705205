use Rattle.std.proofs.Common.{◌-◌}
use Rattle.nested_documents.specs.States.{gathered}
use Rattle.system_files.specs.Steps.{GathersFrom}
use Rattle.system_files.proofs.documents.read_outline.Given as goal

abbrev pub invariant-documents : goal.invariant-documents
invariant-documents g l =
    let view = g.F.Folder.view in
    GathersFrom l.directory l.gathering.documents.items (gathered l.gathering.nest) (view l.fn.folder) (view l.folder)

abbrev pub decreases-documents : goal.decreases-documents
decreases-documents g l = 257 - l.gathering.nest.documents
