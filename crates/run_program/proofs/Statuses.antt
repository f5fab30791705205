-- The status of an outcome is that of no other kind.
use Rattle.std.proofs.Common.{◌≡◌, ℕ, ◌==◌, Option, Some, refl, sym, ap, ◌∙◌}
use Rattle.std.specs.Prelude.{if◌then◌else◌}
use Rattle.fmu_peer.specs.declared.ended.Why.{Why}
use Rattle.fmu_peer.specs.declared.ended.Why.TheVariants.{Refused, Misreply, Link}
use Rattle.run_program.specs.declared.outcome.Outcome.{Outcome}
use Rattle.run_program.specs.declared.outcome.Outcome.TheVariants.{Words, Memory, File, Start, Ran, Checked, Untold}
use Rattle.system_files.specs.declared.named.FileFault.{FileFault}
use Rattle.system_files.specs.declared.named.FileFault.TheVariants.{Unread, Missing, TooBig, Broken}
use Rattle.run_program.specs.declared.outcome.End.{End}
use Rattle.run_program.specs.declared.outcome.End.TheVariants.{Stop, Asked, EventLimit, FixedStep, Range, Held, Bad, WriteFault}
use Rattle.run_program.specs.Message.{status_of}

pub data Status : Type 0 where
  Done : Status
  WrongWords : Status
  NoFile : Status
  BrokenRule : Status
  NoPeer : Status
  Refusal : Status
  WrongReply : Status
  ManyInstants : Status
  FixedSize : Status
  Unwritten : Status
  NoMemory : Status
  OutOfRange : Status

abbrev pub number : Status → ℕ
number Done = 0
number WrongWords = 2
number NoFile = 3
number BrokenRule = 4
number NoPeer = 5
number Refusal = 6
number WrongReply = 7
number ManyInstants = 8
number FixedSize = 9
number Unwritten = 10
number NoMemory = 11
number OutOfRange = 13

-- the status with a number
abbrev with_number : ℕ → Option Status
with_number n =
    if n == 0 then Some Done else if n == 2 then Some WrongWords else if n == 3 then Some NoFile else if n == 4 then Some BrokenRule
    else if n == 5 then Some NoPeer else if n == 6 then Some Refusal else if n == 7 then Some WrongReply else if n == 8 then Some ManyInstants
    else if n == 9 then Some FixedSize else if n == 10 then Some Unwritten
    else if n == 13 then Some OutOfRange else Some NoMemory

with_number-number : (s : Status) → with_number (number s) ≡ Some s
with_number-number Done = refl
with_number-number WrongWords = refl
with_number-number NoFile = refl
with_number-number BrokenRule = refl
with_number-number NoPeer = refl
with_number-number Refusal = refl
with_number-number WrongReply = refl
with_number-number ManyInstants = refl
with_number-number FixedSize = refl
with_number-number Unwritten = refl
with_number-number NoMemory = refl
with_number-number OutOfRange = refl

some_same : (a b : Status) → Some a ≡ Some b → a ≡ b
some_same a b e = cc

-- statuses of one number are one
pub same_number : (a b : Status) → number a ≡ number b → a ≡ b
same_number a b e = some_same a b (sym (with_number-number a) ∙ ap with_number e ∙ with_number-number b)

abbrev pub of_file : FileFault → Status
of_file Unread = NoFile
of_file Missing = NoFile
of_file TooBig = NoFile
of_file (Broken rule place ports) = BrokenRule

abbrev pub of_why : Why → Status
of_why (Refused call status) = Refusal
of_why (Misreply call reply) = WrongReply
of_why (Link call fault) = NoPeer

abbrev pub of_end : End → Status
of_end Stop = Done
of_end Asked = Done
of_end (EventLimit point) = ManyInstants
of_end (FixedStep component at end) = FixedSize
of_end (Range component variable x) = OutOfRange
of_end (Bad component why) = of_why why
of_end (Held point) = Done
of_end WriteFault = Unwritten

abbrev pub of_outcome : Outcome → Status
of_outcome Words = WrongWords
of_outcome Memory = NoMemory
of_outcome (File path fault) = of_file fault
of_outcome (Start component fault) = NoPeer
of_outcome (Ran end) = of_end end
of_outcome Checked = Done
of_outcome Untold = Unwritten

-- an outcome's number is that of its status
pub numbered : (o : Outcome) → status_of o ≡ number (of_outcome o)
numbered Words = refl
numbered Memory = refl
numbered (File path Unread) = refl
numbered (File path Missing) = refl
numbered (File path TooBig) = refl
numbered (File path (Broken rule place ports)) = refl
numbered (Start component fault) = refl
numbered (Ran Stop) = refl
numbered (Ran Asked) = refl
numbered (Ran (EventLimit point)) = refl
numbered (Ran (FixedStep component at end)) = refl
numbered (Ran (Range component variable x)) = refl
numbered (Ran (Bad component (Refused call status))) = refl
numbered (Ran (Bad component (Misreply call reply))) = refl
numbered (Ran (Bad component (Link call fault))) = refl
numbered (Ran (Held point)) = refl
numbered (Ran WriteFault) = refl
numbered Checked = refl
numbered Untold = refl
