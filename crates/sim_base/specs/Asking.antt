-- Reads of a folder, one after another.
use Rattle.std.specs.Prelude.{◌≡◌, ℕ, List, ◌++◌, length, map, Option, Some, None, IfSome, All, Result, Ok, Err}
use Rattle.sim_base.specs.Folder.{FolderView}
use Rattle.sim_base.specs.declared.folder.ReadFault.{ReadFault}
use Rattle.sim_base.specs.declared.folder.ReadFault.TheVariants.{Failed, Missing, TooBig, Memory}
use Rattle.sim_base.specs.declared.read_book.ReadNote.{ReadNote}

-- the paths of reads, in order
abbrev pub paths_read : List ReadNote → List (List ℕ)
paths_read reads = map (λ (read : ReadNote). read.path) reads

-- the folder tells these reads more, and no more faults
abbrev pub with_reads : FolderView → List ReadNote → FolderView
with_reads view reads = record view { reads = view.reads ++ reads }

-- the answer says what stands at the path, if it says anything of it
abbrev pub IsAnswerOf : Option (List ℕ) → Result (List ℕ) ReadFault → Type 0
IsAnswerOf at (Ok bytes) = at ≡ Some bytes
IsAnswerOf at (Err Missing) = at ≡ None
IsAnswerOf at (Err (TooBig n)) = (bytes : List ℕ) × (at ≡ Some bytes) × (length bytes ≡ n)
IsAnswerOf at (Err Failed) = Unit {0}
IsAnswerOf at (Err Memory) = Unit {0}

-- the answers are of the files, where the folder tells them
abbrev pub AreOfFiles : Option (List ℕ → Option (List ℕ)) → List ReadNote → Type 0
AreOfFiles files reads =
    IfSome files (λ at. All (λ (read : ReadNote). IsAnswerOf (at read.path) read.answer) reads)

-- none of them failed
abbrev pub AreUnfailed : List ReadNote → Type 0
AreUnfailed reads = All (λ (read : ReadNote). read.answer ≡ Err Failed → ⊥) reads

-- these paths were read, one after another, with these answers, and no read failed
pub record Asks (reads : List ReadNote) (paths : List (List ℕ)) (old new : FolderView) : Type 0 where
  pub told : new ≡ with_reads old reads
  pub paths_are : paths_read reads ≡ paths
  pub unfailed : AreUnfailed reads
  pub given : AreOfFiles old.files reads
