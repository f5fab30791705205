-- What a source tells, and what a take of bytes changes.
use Rattle.std.specs.Prelude.{◌≡◌, ℕ, ◌≤◌, List, length, Option, Result, Ok, Err}
use Rattle.std.specs.Io.KnownBytes.{ReadConsumes}
use Rattle.sim_base.specs.Causes.{one_more}

-- what a source tells: the bytes that are still to come, where it tells them; how often a take has failed
pub record SourceView : Type 0 where
  pub left : Option (List ℕ)
  pub faults : ℕ

abbrev pub source_view : Option (List ℕ) → ℕ → SourceView
source_view left faults = record { left = left; faults = faults }

-- the count stays, or rises by one at a fault
abbrev pub faults_after : {E : Type 0} → ℕ → Result ℕ E → ℕ
faults_after faults (Ok n) = faults
faults_after faults (Err fault) = one_more faults

-- a take of bytes into room of this length
abbrev pub IsWithinRoom : {E : Type 0} → Result ℕ E → List ℕ → Type 0
IsWithinRoom (Ok n) into = n ≤ length into
IsWithinRoom (Err fault) into = Unit {0}

-- what a take makes of what a source tells: `into` begins with the first bytes of what was to come, which are gone from it; where `into` isn't empty none are taken only at the end; a fault takes nothing
pub record NotesTake {E : Type 0} (old new : SourceView) (into : List ℕ) (result : Result ℕ E) : Type 0 where
  pub within : IsWithinRoom result into
  pub taken : ReadConsumes old.left new.left result into
  pub counted : new.faults ≡ faults_after old.faults result
