use Rattle.std.proofs.Common.{ℕ, List, subst}
use Rattle.nested_documents.specs.declared.nest.TheConstants.{OUTERMOST}
use Rattle.nested_documents.specs.States.{gathered}
use Rattle.system_loading.specs.Documents.{said_of}
use Rattle.system_files.specs.Steps.{EndsAt, FailsStructure, SaysStructure, TakesFile}
use Rattle.system_files.proofs.GatherLemmas.{ends_top, gathers_top, top_left}
use Rattle.system_files.proofs.documents.read_top.Goals as goal

pub returns-in-Ok-begin-clause-ok : goal.returns-in-Ok-begin-clause-ok
returns-in-Ok-begin-clause-ok g c =
    let old = g.F.Folder.view c.args.folder.now in
    let new = g.F.Folder.view c.read_structure.new.folder in
    let said = said_of c.in-Ok-read_structure.read in
    let now = c.in-Ok-begin.gathering in
    gathers_top c.args.directory.now said now.documents.items (gathered now.nest) old new
    (subst (λ (path : List ℕ). TakesFile (SaysStructure OUTERMOST) path said old new) c.in-Ok.ensures c.in-Ok-read_structure.ensures.ok) c.in-Ok-begin.ensures

pub returns-in-Err-begin-clause-err : goal.returns-in-Err-begin-clause-err
returns-in-Err-begin-clause-err g c =
    let old = g.F.Folder.view c.args.folder.now in
    let new = g.F.Folder.view c.read_structure.new.folder in
    let said = said_of c.in-Ok-read_structure.read in
    top_left c.args.directory.now said old new
    (subst (λ (path : List ℕ). TakesFile (SaysStructure OUTERMOST) path said old new) c.in-Ok.ensures c.in-Ok-read_structure.ensures.ok)

pub returns-in-Err-read_structure-clause-err : goal.returns-in-Err-read_structure-clause-err
returns-in-Err-read_structure-clause-err g c =
    let old = g.F.Folder.view c.args.folder.now in
    let new = g.F.Folder.view c.read_structure.new.folder in
    let end = c.in-Err-read_structure.end in
    ends_top c.args.directory.now end old new
    (subst (λ (path : List ℕ). EndsAt (FailsStructure OUTERMOST) path end old new) c.in-Ok.ensures c.in-Err-read_structure.ensures.err)
