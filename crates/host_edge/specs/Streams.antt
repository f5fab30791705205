-- What a stream tells, and what its calls answer and change.
use Rattle.std.specs.Prelude.{◌≡◌, ◌⊎◌, ℕ, ◌+◌, ◌^◌, ◌≤◌, ◌==◌, if◌then◌else◌, List, ◌++◌, length, take, Option, option_map, Result, Ok, Err}
use Rattle.std.specs.IoError.{error_kind}
use Rattle.std.specs.declared.io.Error.{Error}
use Rattle.std.specs.declared.io.ErrorKind.{ErrorKind}
use Rattle.std.specs.declared.io.ErrorKind.TheVariants.{Interrupted}

-- the bytes so far, how many calls went wrong, and how many a signal broke off, where it tells them
pub record StreamView : Type 0 where
  pub content : Option (List ℕ)
  pub errors : Option ℕ
  pub signals : Option ℕ

-- these bytes are added
abbrev pub with_bytes : StreamView → List ℕ → StreamView
with_bytes view bytes = record view { content = option_map (λ old. old ++ bytes) view.content }

-- one call more went wrong
abbrev pub with_error : StreamView → StreamView
with_error view = record view { errors = option_map (λ count. count + 1) view.errors }

-- signals broke off so many calls more, which didn't go wrong
abbrev pub with_signals : StreamView → ℕ → StreamView
with_signals view n = record view { signals = option_map (λ count. count + n) view.signals }

-- a write that answered an error
abbrev pub after_error : ErrorKind → StreamView → StreamView
after_error Interrupted view = with_signals view 1
after_error _ view = with_error view

-- a write took a prefix of the bytes; one that took none went wrong
abbrev pub Writes : StreamView → StreamView → List ℕ → Result ℕ Error → Type 0
Writes old new bytes (Ok n) =
    (n ≤ length bytes) × (new ≡ (if n == 0 then with_error old else with_bytes old (take n bytes)))
Writes old new bytes (Err error) = new ≡ after_error (error_kind error) old

-- a flush that was broken off went wrong too
abbrev pub Flushes : {T : Type 0} → StreamView → StreamView → Result T Error → Type 0
Flushes old new (Ok done) = new ≡ old
Flushes old new (Err error) = new ≡ with_error old

-- a write took some of the first bytes, or a signal broke it off; or it went wrong
abbrev pub WritesSome : StreamView → StreamView → List ℕ → Result ℕ Error → Type 0
WritesSome old new bytes (Ok n) =
    new ≡ (if n == 0 then with_signals old 1 else with_bytes old (take n bytes))
WritesSome old new bytes (Err error) = new ≡ with_error old

-- these bytes were taken, by calls of which signals broke some off
pub record Takes (old new : StreamView) (bytes : List ℕ) : Type 0 where
  pub signals : ℕ
  pub is : new ≡ with_signals (with_bytes old bytes) signals

-- a prefix of the bytes was taken, and then a call went wrong, after which no other was made; or signals had broken off half of all the calls that are tried
pub record StopsShort (old new : StreamView) (bytes : List ℕ) : Type 0 where
  pub count : ℕ
  pub mid : StreamView
  pub takes : Takes old mid (take count bytes)
  pub cause : (new ≡ with_error mid) ⊎ ((new ≡ mid) × (2 ^ 63 ≤ takes.signals))

-- all of the bytes were taken, or there is a cause why not
abbrev pub TakesBytes : {T E : Type 0} → StreamView → StreamView → List ℕ → Result T E → Type 0
TakesBytes old new bytes (Ok done) = Takes old new bytes
TakesBytes old new bytes (Err fault) = StopsShort old new bytes
