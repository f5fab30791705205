-- What a folder over the host asks for, and what a read of an opened file answers.
use Rattle.std.specs.Prelude.{◌≡◌, ℕ, ◌+◌, ◌<◌, ◌≤◌, List, [], ◌∷◌, ◌++◌, length, map, take, Option, option_map, IfSome, Vec, Result, Ok, Err}
use Rattle.std.specs.declared.alloc.Global.{Global}
use Rattle.std.specs.IoError.{error_kind}
use Rattle.std.specs.declared.io.Error.{Error}
use Rattle.std.specs.declared.io.ErrorKind.{ErrorKind}
use Rattle.std.specs.declared.io.ErrorKind.TheVariants.{NotFound, OutOfMemory}
use Rattle.sim_base.specs.ReadNotes.{ReadNotes}
use Rattle.sim_base.specs.declared.read_book.ReadNote.{ReadNote}
use Rattle.sim_base.specs.declared.folder.ReadFault.{ReadFault}
use Rattle.sim_base.specs.declared.folder.ReadFault.TheVariants.{Failed, Missing, TooBig, Memory}

-- ---- a file that was opened

-- the bytes that are left, and the kinds of the errors that it answered, where it tells them
pub record FileView : Type 0 where
  pub left : Option (List ℕ)
  pub errors : Option (List ErrorKind)

-- it answered one error more
abbrev pub after_error : FileView → ErrorKind → Option (List ErrorKind)
after_error view kind = option_map (λ kinds. kinds ++ kind ∷ []) view.errors

-- what is left was put after the bytes, up to a limit; or there was an error
abbrev pub ReadsUpTo : {T : Type 0} → FileView → FileView → ℕ → List ℕ → List ℕ →
    Result T Error → Type 0
ReadsUpTo old new limit bytes all (Ok count) =
    IfSome old.left (λ left. all ≡ bytes ++ take limit left) × (new.errors ≡ old.errors)
ReadsUpTo old new limit bytes all (Err error) = new.errors ≡ after_error old (error_kind error)

-- why a file wasn't opened
abbrev pub unopened : ErrorKind → ReadFault
unopened NotFound = Missing
unopened OutOfMemory = Memory
unopened _ = Failed

-- why an opened file wasn't read
abbrev pub unread : ErrorKind → ReadFault
unread OutOfMemory = Memory
unread _ = Failed

-- it was not read for an error, which is answered so
abbrev pub IsUnread : FileView → FileView → ReadFault → Type 0
IsUnread old new fault =
    (kind : ErrorKind) × (new.errors ≡ after_error old kind) × (fault ≡ unread kind)

-- the answer is all that was left, or that this is more than the limit; or else there was an error
abbrev pub ReadsWithin : FileView → FileView → ℕ → Result (Vec ℕ Global) ReadFault → Type 0
ReadsWithin old new limit (Ok bytes) =
    IfSome old.left (λ left. (bytes.items ≡ left) × (length left ≤ limit)) ×
    (new.errors ≡ old.errors)
ReadsWithin old new limit (Err (TooBig n)) =
    IfSome old.left (λ left. (limit < length left) × (n ≡ limit + 1)) × (new.errors ≡ old.errors)
ReadsWithin old new limit (Err Missing) = ⊥
ReadsWithin old new limit (Err Failed) = IsUnread old new Failed
ReadsWithin old new limit (Err Memory) = IsUnread old new Memory

-- ---- a folder

-- what a folder told as asked for is what it asked the host to open, each once
abbrev pub Opens : Option (List (List ℕ)) → Option (List (List ℕ)) → ReadNotes → ReadNotes → Type 0
Opens old new before after =
    (reads : List ReadNote) × (after.reads ≡ before.reads ++ reads) ×
    (new ≡ option_map (λ opened. opened ++ map (λ (read : ReadNote). read.path) reads) old)
