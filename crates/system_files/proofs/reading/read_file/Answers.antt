use Rattle.std.proofs.Common.{◌≡◌, List, ℕ, refl, sym, subst, ◌∙◌}
use Rattle.std.specs.Prelude.{Ok, Err}
use Rattle.sim_base.specs.Folder.{NotesRead}
use Rattle.system_files.specs.declared.loading.LoadError.{LoadError}
use Rattle.system_files.specs.Steps.{EndsUnread}
use Rattle.system_files.proofs.AskLemmas.{Answers, ends_unread, takes_file}
use Rattle.system_files.proofs.reading.read_file.Goals as goal

pub returns-in-Ok-read-clause-ok : goal.returns-in-Ok-read-clause-ok
returns-in-Ok-read-clause-ok g c =
    let old = g.F.Folder.view c.args.folder.now in
    let new = g.F.Folder.view c.read.new.self in
    let bytes = c.in-Ok-read.bytes in
    let path = c.as_str.ensures ∙ c.in-Ok.ensures in
    takes_file c.args.path.now bytes bytes old new refl c.in-Ok-read.ensures.within
    (subst (λ (p : List ℕ). Answers old p (Ok bytes)) path c.in-Ok-read.ensures.reads)
    (subst (λ (p : List ℕ). NotesRead old new p (Ok bytes)) path c.in-Ok-read.ensures.noted)
    (λ (read given : List ℕ). read ≡ given) bytes refl

pub returns-in-Err-clause-err : goal.returns-in-Err-clause-err
returns-in-Err-clause-err g c =
    let old = g.F.Folder.view c.args.folder.now in
    let new = g.F.Folder.view c.read.new.self in
    let fault = c.in-Err.fault in
    let path = c.as_str.ensures ∙ c.in-Ok.ensures in
    subst (λ (e : LoadError). EndsUnread c.args.path.now e old new) (sym c.leave_unread.ensures)
    (ends_unread (λ bytes rule place. ⊥) c.args.path.now c.in-Ok.file fault old new c.in-Ok.ensures
    (subst (λ (p : List ℕ). Answers old p (Err fault)) path c.in-Err.ensures.reads) c.in-Err.ensures.within
    (subst (λ (p : List ℕ). NotesRead old new p (Err fault)) path c.in-Err.ensures.noted))
