-- The check of a run's own trace, over the files that the run read (SSP 1.0, SystemStructure.ssd; FMI 3.0, 2.4).
use Rattle.std.specs.Prelude.{◌≡◌, ◌⊎◌, ℕ, List, ◌∷◌, Result, Ok, Err}
use Rattle.sim_base.specs.Asking.{AreUnfailed, with_reads}
use Rattle.sim_base.specs.Causes.{Rose}
use Rattle.sim_base.specs.ReadNotes.{read_of}
use Rattle.sim_base.specs.Sink.{with_piece}
use Rattle.sim_base.specs.declared.folder.ReadFault.{ReadFault}
use Rattle.sim_base.specs.declared.folder.ReadFault.TheVariants as f
use Rattle.sim_base.specs.declared.read_book.ReadNote.{ReadNote}
use Rattle.system_model.specs.declared.plan.EndKind.{EndKind}
use Rattle.system_model.specs.Text.{Instant, trace_text}
use Rattle.run_model.specs.Run.{Run}
use Rattle.trace_laws.specs.Laws.{IsTraceOf}
use Rattle.trace_check.specs.declared.verdict.Verdict.TheVariants.{Yes}
use Rattle.command_line.specs.Line.{RunLine, TraceLine}
use Rattle.command_line.specs.Line as lines
use Rattle.system_loading.specs.Assembly.{HaveSameParts}
use Rattle.system_files.specs.declared.loaded.Loaded.{Loaded}
use Rattle.system_files.specs.declared.named.FileFault.TheVariants.{TooBig}
use Rattle.system_files.specs.Files.{AreSteady, Holds}
use Rattle.run_program.specs.Facts.{LoadsLine}
use Rattle.run_program.specs.Happened.{Happened}
use Rattle.run_program.specs.Message.{file_message}
use Rattle.run_program.specs.Rows.{IsSilent, Says}
use Rattle.run_program.specs.TraceCheck.{ChecksTrace, verdict_text}

-- a run of what was loaded, by the plan of the line, and its trace
pub record HasTrace (asked : RunLine) (loaded : Loaded) (r : Run) (is : List Instant)
    (kind : EndKind) (point : ℕ) : Type 0 where
  pub parts : HaveSameParts r.system loaded.system
  pub plan_is : r.plan ≡ asked.plan
  pub trace : IsTraceOf r is kind point

-- the check of a file over the directory of the run: the read of the file got this, each read after it what a read of the run got, none failed, and no put did
pub record IsCheckOf (k : Happened) (line : TraceLine) (asked : RunLine)
    (answer : Result (List ℕ) ReadFault) (reads : List ReadNote) : Type 0 where
  pub checks : ChecksTrace k line
  pub directory : line.directory ≡ asked.directory
  pub later : List ReadNote
  pub told : k.new.folder ≡ with_reads k.old.folder (read_of line.file answer ∷ later)
  pub unfailed : AreUnfailed (read_of line.file answer ∷ later)
  pub same : (path : List ℕ) (other : Result (List ℕ) ReadFault) → Holds later path other →
      Holds reads path other
  pub out : Rose k.old.run.out.faults k.new.run.out.faults → ⊥
  pub err : Rose k.err.faults k.err_after.faults → ⊥

-- status 0 with the line `yes`, or out of memory
abbrev pub AnswersYes : Happened → Type 0
AnswersYes k =
    ((k.status ≡ 0) × (k.new.run.out ≡ with_piece k.old.run.out (verdict_text Yes)) × IsSilent k) ⊎
    (k.status ≡ 11)

-- the whole text of the trace of a run, checked over the files of the run
abbrev pub RunsAreChecked : Type 0
RunsAreChecked =
    (h k : Happened) (asked : RunLine) (loaded : Loaded) (line : TraceLine) (r : Run)
    (is : List Instant) (kind : EndKind) (point : ℕ)
    (loads : LoadsLine (lines.Run asked) loaded h.old.folder h.new.folder) → AreSteady loads.reads →
    HasTrace asked loaded r is kind point →
    IsCheckOf k line asked (Ok (trace_text r.system r.plan is kind point)) loads.reads →
    AnswersYes k

-- a file that is past its limit
abbrev pub LongTracesAreTold : Type 0
LongTracesAreTold =
    (k : Happened) (asked : RunLine) (line : TraceLine) (reads : List ReadNote) (n : ℕ) →
    IsCheckOf k line asked (Err (f.TooBig n)) reads →
    ((k.status ≡ 3) × Says k (file_message line.file TooBig)) ⊎ (k.status ≡ 11)
