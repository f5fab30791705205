-- What a stream tells that is read from, and what its reads answer and change.
use Rattle.std.specs.Prelude.{◌≡◌, ◌⊎◌, ℕ, ◌+◌, ◌-◌, ◌^◌, ◌≤◌, List, Option, option_map, Result, Ok, Err}
use Rattle.std.specs.Io.KnownBytes.{ReadConsumes}
use Rattle.std.specs.IoError.{error_kind}
use Rattle.std.specs.declared.io.Error.{Error}
use Rattle.std.specs.declared.io.ErrorKind.{ErrorKind}
use Rattle.std.specs.declared.io.ErrorKind.TheVariants.{Interrupted}
use Rattle.sim_base.specs.Source.{IsWithinRoom}

-- how many reads went wrong, and how many a signal broke off, where it tells them
pub record ReadCounts : Type 0 where
  pub errors : Option ℕ
  pub signals : Option ℕ

-- the bytes that are still to come, where it tells them, and the counts
pub record InStreamView : Type 0 where
  pub left : Option (List ℕ)
  pub counts : ReadCounts

-- one read more went wrong
abbrev pub with_error : ReadCounts → ReadCounts
with_error counts = record counts { errors = option_map (λ n. n + 1) counts.errors }

-- signals broke off so many reads more, which didn't go wrong
abbrev pub with_signals : ReadCounts → ℕ → ReadCounts
with_signals counts more = record counts { signals = option_map (λ n. n + more) counts.signals }

-- a read that answered an error
abbrev pub after_error : ErrorKind → ReadCounts → ReadCounts
after_error Interrupted counts = with_signals counts 1
after_error _ counts = with_error counts

-- a read that gave bytes counts for nothing
abbrev pub after_read : ReadCounts → Result ℕ Error → ReadCounts
after_read counts (Ok n) = counts
after_read counts (Err error) = after_error (error_kind error) counts

-- one read: the room begins with the first bytes of what was to come, which are gone from it; where the room isn't empty none are given only at the end; an error takes nothing
pub record Gives (old new : InStreamView) (into : List ℕ) (result : Result ℕ Error) : Type 0 where
  pub within : IsWithinRoom result into
  pub taken : ReadConsumes old.left new.left result into
  pub counted : new.counts ≡ after_read old.counts result

-- signals broke off so many reads, and then one gave bytes or went wrong; or they broke off all the reads that are tried
abbrev pub EndsAfter : {T E : Type 0} → ReadCounts → ReadCounts → ℕ → Result T E → Type 0
EndsAfter old new signals (Ok n) = new ≡ with_signals old signals
EndsAfter old new signals (Err fault) =
    (new ≡ with_error (with_signals old signals)) ⊎
    ((new ≡ with_signals old signals) × (2 ^ 64 - 1 ≤ signals))

-- so it ends after some number of signals
pub record Retries {T E : Type 0} (old new : ReadCounts) (result : Result T E) : Type 0 where
  pub signals : ℕ
  pub so : EndsAfter old new signals result

-- all the reads of a take: the bytes go from what was to come to the start of the room
pub record GivesPrefix (old new : InStreamView) (into : List ℕ)
    (result : Result ℕ Error) : Type 0 where
  pub within : IsWithinRoom result into
  pub taken : ReadConsumes old.left new.left result into
  pub retried : Retries old.counts new.counts result
