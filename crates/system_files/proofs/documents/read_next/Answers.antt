use Rattle.std.proofs.Common.{◌∙◌, ℕ, List, ap, inl, subst}
use Rattle.sim_base.specs.Path.{joined_path}
use Rattle.nested_documents.specs.States.{gathered}
use Rattle.system_loading.specs.Documents.{said_of}
use Rattle.system_files.specs.Steps.{EndsAt, FailsStructure, SaysStructure, TakesFile}
use Rattle.system_files.proofs.GatherLemmas.{can_add}
use Rattle.system_files.proofs.documents.read_next.Goals as goal

pub add-requires : goal.add-requires
add-requires g c = can_add (gathered c.args.gathering.nest) c.args.path c.args.setting c.requires

pub returns-in-Ok-add-clause-ok : goal.returns-in-Ok-add-clause-ok
returns-in-Ok-add-clause-ok g c =
    let old = g.F.Folder.view c.args.folder.now in
    let new = g.F.Folder.view c.read_structure.new.folder in
    let said = said_of c.in-Ok-read_structure.read in
    record {
      said = said;
      takes = subst (λ (path : List ℕ). TakesFile (SaysStructure c.args.setting) path said old new) (c.in-Ok.ensures ∙ ap (joined_path c.args.directory.now) c.as_str.ensures) c.in-Ok-read_structure.ensures.ok;
      adds = c.in-Ok-add.ensures;
    }

pub returns-in-Err-add-clause-err : goal.returns-in-Err-add-clause-err
returns-in-Err-add-clause-err g c =
    let old = g.F.Folder.view c.args.folder.now in
    let new = g.F.Folder.view c.read_structure.new.folder in
    let said = said_of c.in-Ok-read_structure.read in
    let takes =
    subst (λ (path : List ℕ). TakesFile (SaysStructure c.args.setting) path said old new) (c.in-Ok.ensures ∙ ap (joined_path c.args.directory.now) c.as_str.ensures) c.in-Ok-read_structure.ensures.ok in
    inl (takes.reads, takes.asks)

pub returns-in-Err-read_structure-clause-err : goal.returns-in-Err-read_structure-clause-err
returns-in-Err-read_structure-clause-err g c =
    let old = g.F.Folder.view c.args.folder.now in
    let new = g.F.Folder.view c.read_structure.new.folder in
    subst (λ (path : List ℕ). EndsAt (FailsStructure c.args.setting) path c.in-Err-read_structure.end old new) (c.in-Ok.ensures ∙ ap (joined_path c.args.directory.now) c.as_str.ensures) c.in-Err-read_structure.ensures.err
