-- How a room is filled with bytes that come piece by piece.
use Rattle.std.specs.Prelude.{ℕ, ◌<◌, List, [], drop, length, take, Option, Result, Ok, Err}
use Rattle.std.specs.Io.KnownBytes.{Consumes, IsAtEnd, Keeps}
use Rattle.fmu_link.specs.declared.wire.WireFault.{WireFault}
use Rattle.fmu_link.specs.declared.wire.WireFault.TheVariants.{Failed, Ended}

-- all that was still to come is gone, and was less than fills the room
pub record RunsOut (old new : Option (List ℕ)) (into : List ℕ) : Type 0 where
  pub last : List ℕ
  pub gone : Consumes old new last
  pub end : IsAtEnd new
  pub short : length last < length into

-- the room has the first bytes of what was to come; or that ended before; or a take failed after some of them
abbrev pub Fills : {T : Type 0} → Option (List ℕ) → Option (List ℕ) → List ℕ →
    Result T WireFault → Type 0
Fills old new into (Ok _) = Consumes old new into
Fills old new into (Err Ended) = RunsOut old new into
Fills old new into (Err Failed) = (n : ℕ) × Consumes old new (take n into)

-- some more bytes come after those at the start of the room; or nothing was left to come; or a take failed, and took nothing
abbrev pub FillsMore : Option (List ℕ) → Option (List ℕ) → ℕ → List ℕ → Result ℕ WireFault → Type 0
FillsMore old new filled into (Ok n) = Consumes old new (take n (drop filled into))
FillsMore old new filled into (Err Ended) = Consumes old new [] × IsAtEnd new
FillsMore old new filled into (Err Failed) = Keeps old new
