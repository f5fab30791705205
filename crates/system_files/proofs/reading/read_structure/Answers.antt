use Rattle.std.proofs.Common.{List, ℕ, refl, sym, subst}
use Rattle.std.specs.Prelude.{Ok, Err}
use Rattle.sim_base.specs.Folder.{NotesRead}
use Rattle.system_loading.specs.Documents.{BreaksStructure, IsStructure, said_of}
use Rattle.system_files.specs.declared.loading.LoadError.{LoadError}
use Rattle.system_files.specs.Steps.{EndsAt, FailsStructure, SaysStructure}
use Rattle.system_files.proofs.AskLemmas.{Answers, ends_fault, ends_unread, takes_file}
use Rattle.system_files.proofs.reading.read_structure.Goals as goal

pub returns-in-Ok-read_system_document-clause-ok : goal.returns-in-Ok-read_system_document-clause-ok
returns-in-Ok-read_system_document-clause-ok g c =
    let old = g.F.Folder.view c.args.folder.now in
    let new = g.F.Folder.view c.read.new.self in
    let bytes = c.in-Ok.bytes in
    takes_file c.args.file.path bytes c.as_slice.result.now old new c.as_slice.ensures c.in-Ok.ensures.within
    (subst (λ (p : List ℕ). Answers old p (Ok bytes)) c.as_str.ensures c.in-Ok.ensures.reads)
    (subst (λ (p : List ℕ). NotesRead old new p (Ok bytes)) c.as_str.ensures c.in-Ok.ensures.noted)
    (SaysStructure c.args.setting) (said_of c.in-Ok-read_system_document.read) c.in-Ok-read_system_document.ensures.ok

pub returns-in-Err-read_system_document-clause-err : goal.returns-in-Err-read_system_document-clause-err
returns-in-Err-read_system_document-clause-err g c =
    let old = g.F.Folder.view c.args.folder.now in
    let new = g.F.Folder.view c.read.new.self in
    let bytes = c.in-Ok.bytes in
    subst (λ (e : LoadError). EndsAt (FailsStructure c.args.setting) c.args.file.path e old new) (sym c.refuse.ensures)
    (ends_fault c.args.file.path bytes c.as_slice.result.now old new c.as_slice.ensures c.in-Ok.ensures.within
    (subst (λ (p : List ℕ). Answers old p (Ok bytes)) c.as_str.ensures c.in-Ok.ensures.reads)
    (subst (λ (p : List ℕ). NotesRead old new p (Ok bytes)) c.as_str.ensures c.in-Ok.ensures.noted)
    (IsStructure c.args.setting) (BreaksStructure c.args.setting) c.args.file c.in-Err-read_system_document.fault refl c.in-Err-read_system_document.ensures.err)

pub returns-in-Err-clause-err : goal.returns-in-Err-clause-err
returns-in-Err-clause-err g c =
    let old = g.F.Folder.view c.args.folder.now in
    let new = g.F.Folder.view c.read.new.self in
    let fault = c.in-Err.fault in
    subst (λ (e : LoadError). EndsAt (FailsStructure c.args.setting) c.args.file.path e old new) (sym c.leave_unread.ensures)
    (ends_unread (FailsStructure c.args.setting) c.args.file.path c.args.file fault old new refl
    (subst (λ (p : List ℕ). Answers old p (Err fault)) c.as_str.ensures c.in-Err.ensures.reads) c.in-Err.ensures.within
    (subst (λ (p : List ℕ). NotesRead old new p (Err fault)) c.as_str.ensures c.in-Err.ensures.noted))
