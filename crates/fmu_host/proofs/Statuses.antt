-- The status of an end is that of no other kind.
use Rattle.std.proofs.Common.{◌≡◌, inl, inr, ℕ, ◌==◌, Option, Some, refl, sym, ap, ◌∙◌, arith}
use Rattle.std.specs.Prelude.{if◌then◌else◌}
use Rattle.host_serving.specs.declared.serving.ServeEnd.{ServeEnd}
use Rattle.host_serving.specs.declared.serving.ServeEnd.TheVariants as E
use Rattle.fmu_host.specs.declared.hosting.HostEnd.{HostEnd}
use Rattle.fmu_host.specs.declared.hosting.HostEnd.TheVariants as H
use Rattle.fmu_host.specs.Rows.{IsStatus}
use Rattle.fmu_host.specs.Status.{status_of}

pub data Status : Type 0 where
  Done : Status
  WrongFrame : Status
  WrongWords : Status
  NoFile : Status
  BrokenRule : Status
  NoMachine : Status
  WrongCall : Status
  ManyCalls : Status
  LostLink : Status
  NoMemory : Status

abbrev pub number : Status → ℕ
number Done = 0
number WrongFrame = 1
number WrongWords = 2
number NoFile = 3
number BrokenRule = 4
number NoMachine = 5
number WrongCall = 6
number ManyCalls = 9
number LostLink = 10
number NoMemory = 11

-- the status with a number
abbrev with_number : ℕ → Option Status
with_number n =
    if n == 0 then Some Done else if n == 1 then Some WrongFrame else if n == 2 then Some WrongWords else if n == 3 then Some NoFile
    else if n == 4 then Some BrokenRule else if n == 5 then Some NoMachine else if n == 6 then Some WrongCall else if n == 9 then Some ManyCalls
    else if n == 10 then Some LostLink else Some NoMemory

with_number-number : (s : Status) → with_number (number s) ≡ Some s
with_number-number Done = refl
with_number-number WrongFrame = refl
with_number-number WrongWords = refl
with_number-number NoFile = refl
with_number-number BrokenRule = refl
with_number-number NoMachine = refl
with_number-number WrongCall = refl
with_number-number ManyCalls = refl
with_number-number LostLink = refl
with_number-number NoMemory = refl

some_same : (a b : Status) → Some a ≡ Some b → a ≡ b
some_same a b e = cc

-- statuses of one number are one
pub same_number : (a b : Status) → number a ≡ number b → a ≡ b
same_number a b e = some_same a b (sym (with_number-number a) ∙ ap with_number e ∙ with_number-number b)

abbrev pub of_serve : ServeEnd → Status
of_serve E.Freed = Done
of_serve E.Ended = Done
of_serve (E.BadFrame at) = WrongFrame
of_serve (E.NotPermitted call) = WrongCall
of_serve E.Failed = LostLink
of_serve E.TooMany = ManyCalls
of_serve E.Memory = NoMemory

abbrev pub of_end : HostEnd → Status
of_end H.NoWords = WrongWords
of_end H.Unread = NoFile
of_end H.Missing = NoFile
of_end H.TooBig = NoFile
of_end H.Broken = BrokenRule
of_end H.Unknown = NoMachine
of_end (H.Served end) = of_serve end
of_end H.Memory = NoMemory

-- an end's number is that of its status
pub numbered : (e : HostEnd) → status_of e ≡ number (of_end e)
numbered H.NoWords = refl
numbered H.Unread = refl
numbered H.Missing = refl
numbered H.TooBig = refl
numbered H.Broken = refl
numbered H.Unknown = refl
numbered (H.Served E.Freed) = refl
numbered (H.Served E.Ended) = refl
numbered (H.Served (E.BadFrame at)) = refl
numbered (H.Served (E.NotPermitted call)) = refl
numbered (H.Served E.Failed) = refl
numbered (H.Served E.TooMany) = refl
numbered (H.Served E.Memory) = refl
numbered H.Memory = refl

-- which is one of those that come
pub known : (s : Status) → IsStatus (number s)
known Done = inl (omega arith)
known WrongFrame = inl (omega arith)
known WrongWords = inl (omega arith)
known NoFile = inl (omega arith)
known BrokenRule = inl (omega arith)
known NoMachine = inl (omega arith)
known WrongCall = inl (omega arith)
known ManyCalls = inr (omega arith, omega arith)
known LostLink = inr (omega arith, omega arith)
known NoMemory = inr (omega arith, omega arith)
