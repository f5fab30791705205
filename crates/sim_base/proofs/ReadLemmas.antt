-- What is noted of a read.
use Rattle.std.proofs.Common.{◌≡◌, ℕ, List, [], ◌∷◌, ◌++◌, Option, refl, sym, ap, ap₂, ◌∙◌, inl}
use Rattle.std.specs.Prelude.{Result, Ok, Err}
use Rattle.sim_base.specs.Folder.{FolderView, NotesRead, folder_view, with_read}
use Rattle.sim_base.specs.ReadNotes.{ReadNotes, faults_after, read_of, with_last}
use Rattle.sim_base.specs.declared.folder.ReadFault.{ReadFault}
use Rattle.sim_base.specs.declared.folder.ReadFault.TheVariants.{Failed, Missing, TooBig, Memory}
use Rattle.sim_base.specs.declared.read_book.ReadNote.{ReadNote}

-- the newest read has the other answer, and those before it theirs
pub last_told : (reads : List ReadNote) (read : ReadNote) (answer : Result (List ℕ) ReadFault) → with_last (reads ++ read ∷ []) answer ≡ reads ++ record read { answer = answer } ∷ []
last_told [] read answer = refl
last_told (r ∷ []) read answer = refl
last_told (r ∷ next ∷ reads) read answer = ap (λ (rs : List ReadNote). r ∷ rs) (last_told (next ∷ reads) read answer)

pub last_replaced : (old rest new : List ReadNote) (read : ReadNote) (answer : Result (List ℕ) ReadFault) → old ≡ rest ++ read ∷ [] → new ≡ rest ++ record read { answer = answer } ∷ [] →
    new ≡ with_last old answer
last_replaced old rest new read answer is told = told ∙ sym (last_told rest read answer) ∙ ap (λ (rs : List ReadNote). with_last rs answer) (sym is)

-- asked for and answered, the read comes after those before
pub read_kept : (old mid new : ReadNotes) (path : List ℕ) (answer : Result (List ℕ) ReadFault) → mid ≡ record old { reads = old.reads ++ read_of path (Err Memory) ∷ [] } →
    new.reads ≡ with_last mid.reads answer → new.reads ≡ old.reads ++ read_of path answer ∷ []
read_kept old mid new path answer asked reads = reads ∙ ap (λ (m : ReadNotes). with_last m.reads answer) asked ∙ last_told old.reads (read_of path (Err Memory)) answer

-- and is noted with its answer
pub read_noted : (files : Option (List ℕ → Option (List ℕ))) (old mid new : ReadNotes) (path : List ℕ) (answer : Result (List ℕ) ReadFault)
    → mid ≡ record old { reads = old.reads ++ read_of path (Err Memory) ∷ [] }
    → new.reads ≡ with_last mid.reads answer → new.faults ≡ faults_after mid.faults answer
    → NotesRead (folder_view files old) (folder_view files new) path answer
read_noted files old mid new path answer asked reads faults = by answer is
  where
    made : List ReadNote → ℕ → FolderView
    made rs n = record { files = files; reads = rs; faults = n }

    is : folder_view files new ≡ with_read (folder_view files old) path answer
    is = ap₂ made (read_kept old mid new path answer asked reads) (faults ∙ ap (λ (m : ReadNotes). faults_after m.faults answer) asked)

    by : (a : Result (List ℕ) ReadFault) → folder_view files new ≡ with_read (folder_view files old) path a → NotesRead (folder_view files old) (folder_view files new) path a
    by (Ok bytes) e = e
    by (Err Missing) e = e
    by (Err (TooBig n)) e = e
    by (Err Failed) e = e
    by (Err Memory) e = inl e
