use Rattle.std.proofs.Common.{List, ℕ, refl, sym, subst}
use Rattle.std.specs.Prelude.{Ok, Err}
use Rattle.sim_base.specs.Folder.{NotesRead}
use Rattle.checkpoint_loading.specs.declared.rest.RestEnd.{RestEnd}
use Rattle.checkpoint_loading.specs.Steps.{LacksBytes}
use Rattle.checkpoint_loading.proofs.LoadingLemmas.{Answered, lacks_read, takes_bytes}
use Rattle.checkpoint_loading.proofs.loading.read_bytes.Goals as goal

pub returns-in-Ok-clause-ok : goal.returns-in-Ok-clause-ok
returns-in-Ok-clause-ok g c = (
  refl,
  λ directory.
      let old = g.F.Folder.view c.args.folder.now in
      let new = g.F.Folder.view c.read.new.self in
      let bytes = c.in-Ok.bytes in
      takes_bytes directory c.args.file.path bytes old new (subst (λ (p : List ℕ). Answered old p (Ok bytes)) c.as_str.ensures c.in-Ok.ensures.reads) c.in-Ok.ensures.within
      (subst (λ (p : List ℕ). NotesRead old new p (Ok bytes)) c.as_str.ensures c.in-Ok.ensures.noted),
)

pub returns-in-Err-clause-err : goal.returns-in-Err-clause-err
returns-in-Err-clause-err g c = λ directory.
    let old = g.F.Folder.view c.args.folder.now in
    let new = g.F.Folder.view c.read.new.self in
    let fault = c.in-Err.fault in
    let path = c.args.file.path in
    subst (λ (e : RestEnd). LacksBytes (record { directory = directory; file = path }) e old new) (sym c.leave_unread.ensures)
    (lacks_read directory path c.args.file fault old new refl (subst (λ (p : List ℕ). Answered old p (Err fault)) c.as_str.ensures c.in-Err.ensures.reads) c.in-Err.ensures.within
    (subst (λ (p : List ℕ). NotesRead old new p (Err fault)) c.as_str.ensures c.in-Err.ensures.noted))
