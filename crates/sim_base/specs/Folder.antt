-- What a folder tells, and what reading a file answers and changes.
use Rattle.std.specs.Prelude.{◌≡◌, ◌⊎◌, ℕ, ◌<◌, ◌≤◌, List, [], ◌∷◌, ◌++◌, length, Option, Some, None, Result, Ok, Err, if◌then◌else◌, bytes_eq}
use Rattle.sim_base.specs.declared.folder.ReadFault.{ReadFault}
use Rattle.sim_base.specs.declared.folder.ReadFault.TheVariants.{Failed, Missing, TooBig, Memory}
use Rattle.sim_base.specs.declared.folder.MemFile.{MemFile}
use Rattle.sim_base.specs.declared.read_book.ReadNote.{ReadNote}
use Rattle.sim_base.specs.ReadNotes.{ReadNotes, faults_after, read_of}

-- what a folder tells: the bytes at each path, where it tells them; and, always, each read with its answer, the newest last, and how often one has failed
pub record FolderView : Type 0 where
  pub files : Option (List ℕ → Option (List ℕ))
  pub reads : List ReadNote
  pub faults : ℕ

-- what a folder tells that has these files and these notes
abbrev pub folder_view : Option (List ℕ → Option (List ℕ)) → ReadNotes → FolderView
folder_view files notes = record { files = files; reads = notes.reads; faults = notes.faults }

-- one read more of a path, with this answer
abbrev pub with_read : FolderView → List ℕ → Result (List ℕ) ReadFault → FolderView
with_read view path answer = record view {
  reads = view.reads ++ read_of path answer ∷ [];
  faults = faults_after view.faults answer;
}

-- what a read of a path makes of what a folder tells. Where memory runs out it may not be noted
abbrev pub NotesRead : FolderView → FolderView → List ℕ → Result (List ℕ) ReadFault → Type 0
NotesRead old new path (Ok bytes) = new ≡ with_read old path (Ok bytes)
NotesRead old new path (Err Missing) = new ≡ with_read old path (Err Missing)
NotesRead old new path (Err (TooBig n)) = new ≡ with_read old path (Err (TooBig n))
NotesRead old new path (Err Failed) = new ≡ with_read old path (Err Failed)
NotesRead old new path (Err Memory) = (new ≡ with_read old path (Err Memory)) ⊎ (new ≡ old)

-- the answer to a read of what stands at a path: all of it, or why not
abbrev pub Reads : Option (List ℕ) → ℕ → Result (List ℕ) ReadFault → Type 0
Reads at limit (Ok bytes) = (at ≡ Some bytes) × (length bytes ≤ limit)
Reads at limit (Err Missing) = at ≡ None
Reads at limit (Err (TooBig n)) = (bytes : List ℕ) × (at ≡ Some bytes) × (length bytes ≡ n) × (limit < n)
Reads at limit (Err Failed) = Unit {0}
Reads at limit (Err Memory) = Unit {0}

-- whatever stands at the path: no more bytes than the limit, and a length past it
abbrev pub KeepsLimit : ℕ → Result (List ℕ) ReadFault → Type 0
KeepsLimit limit (Ok bytes) = length bytes ≤ limit
KeepsLimit limit (Err (TooBig n)) = limit < n
KeepsLimit limit (Err Missing) = Unit {0}
KeepsLimit limit (Err Failed) = Unit {0}
KeepsLimit limit (Err Memory) = Unit {0}

-- the bytes at a path in a list of files: the first of that path counts
abbrev pub file_at : List MemFile → List ℕ → Option (List ℕ)
file_at [] path = None
file_at (file ∷ files) path = if bytes_eq file.path path then Some file.bytes else file_at files path
