-- The check of a trace: what is put on out and on err, and the status.
use Rattle.std.specs.Prelude.{◌≡◌, ◌⊎◌, ℕ, List, ◌++◌, codes, decimal}
use Rattle.sim_base.specs.Sink.{with_piece}
use Rattle.trace_check.specs.declared.verdict.Verdict.{Verdict}
use Rattle.trace_check.specs.declared.verdict.Verdict.TheVariants.{Yes, No}
use Rattle.command_line.specs.Line.{BenchLine, CheckpointLine, IsBenchLine, IsCheckpointLine, IsResumeLine, IsTraceLine, ResumeLine, TraceLine}
use Rattle.system_files.specs.declared.named.FileFault.{FileFault}
use Rattle.system_files.specs.declared.named.FileFault.TheVariants.{Unread, Missing, TooBig, Broken}
use Rattle.system_files.specs.Files.{Absent, Faulty, Flaw, Long}
use Rattle.trace_judging.specs.Judging.{FailsReading, Gives, Judged, Judgement, Lacks, Question, ReadsFew}
use Rattle.run_program.specs.Bench.{RunsBench}
use Rattle.run_program.specs.Happened.{Happened}
use Rattle.run_program.specs.Held.{RunsCheckpoint, RunsResume}
use Rattle.run_program.specs.Message.{CutsShort, file_message, file_status}
use Rattle.run_program.specs.Rows.{Answers, AnswersOr11, IsSilent, KeepsSystemRows, memory_line}

abbrev pub question_of : TraceLine → Question
question_of line = record { directory = line.directory; file = line.file }

-- ---- the verdict

unfoldable pub verdict_text : Verdict → List ℕ
verdict_text Yes = codes "yes\n"
verdict_text (No line rule) = codes "no " ++ decimal line ++ codes " " ++ decimal rule ++ codes "\n"

-- 0 where the trace keeps the rules, and 1 where it breaks one
abbrev pub verdict_status : Verdict → ℕ
verdict_status Yes = 0
verdict_status (No line rule) = 1

-- its line was put on out in one piece, and err holds what it held; or that put failed, and the status is 10
abbrev pub TellsVerdict : Happened → Verdict → Type 0
TellsVerdict h verdict =
    ((h.status ≡ verdict_status verdict) ×
    (h.new.run.out ≡ with_piece h.old.run.out (verdict_text verdict)) × IsSilent h)
    ⊎ (CutsShort (verdict_text verdict) h.old.run.out h.new.run.out ×
    Answers h 10 (codes "write\n"))

-- ---- no verdict

-- nothing was put on out
abbrev pub IsUntold : Happened → Type 0
IsUntold h = h.new.run.out ≡ h.old.run.out

abbrev pub fault_of : Flaw → FileFault
fault_of Absent = Missing
fault_of Long = TooBig
fault_of (Faulty rule place ports) = Broken rule place ports

-- a file that isn't taken is told: 3 where it is missing or too big, 4 where it breaks a rule; or memory runs out
abbrev pub TellsFlaw : Happened → List ℕ → Flaw → Type 0
TellsFlaw h path flaw =
    IsUntold h × AnswersOr11 h (file_status (fault_of flaw)) (file_message path (fault_of flaw))

-- ---- the whole

abbrev pub Tells : Happened → Judgement → Type 0
Tells h (Lacks path flaw) = TellsFlaw h path flaw
Tells h (Gives verdict) = TellsVerdict h verdict

-- what it comes to is told; or the read of a file failed, or memory runs out
pub data EndsCheck (h : Happened) (line : TraceLine) : Type 0 where
  Judges : (j : Judgement) → Judged (question_of line) j h.old.folder h.new.folder →
      Tells h j → EndsCheck h line
  FailsToRead : (path : List ℕ) → FailsReading (question_of line) path h.old.folder h.new.folder →
      IsUntold h → Answers h 3 (file_message path Unread) → EndsCheck h line
  OutOfMemory : ReadsFew (question_of line) h.old.folder h.new.folder → IsUntold h →
      Answers h 11 memory_line → EndsCheck h line

-- no peer is started
pub record ChecksTrace (h : Happened) (line : TraceLine) : Type 0 where
  pub calm : h.new.run.spawner ≡ h.old.run.spawner
  pub ends : EndsCheck h line

-- ---- each call of the program

-- the arguments ask for one of the commands that the rows of a system aren't about
pub data IsOfOther (h : Happened) : Type 0 where
  ForTrace : (line : TraceLine) → IsTraceLine h.words line → IsOfOther h
  ForBench : (line : BenchLine) → IsBenchLine h.words line → IsOfOther h
  ForCheckpoint : (line : CheckpointLine) → IsCheckpointLine h.words line → IsOfOther h
  ForResume : (line : ResumeLine) → IsResumeLine h.words line → IsOfOther h

-- the rows of a system, and where the arguments ask for another command, what that does
pub record KeepsRows (h : Happened) : Type 0 where
  pub system : (IsOfOther h → ⊥) → KeepsSystemRows h
  pub trace_check : (line : TraceLine) → IsTraceLine h.words line → ChecksTrace h line
  pub bench : (line : BenchLine) → IsBenchLine h.words line → RunsBench h line
  pub checkpoint : (line : CheckpointLine) → IsCheckpointLine h.words line → RunsCheckpoint h line
  pub resume : (line : ResumeLine) → IsResumeLine h.words line → RunsResume h line
