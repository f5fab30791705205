-- The run of a generated system: the numbers that are put on out, and the status.
use Rattle.std.specs.Prelude.{◌≡◌, ℕ, ◌-◌, ◌^◌, Bool, true, false, List, [], length, min, count_by, None, replicate, sum_by}
use Rattle.sim_base.specs.Sink.{SinkView, with_piece}
use Rattle.fmu_peer.specs.declared.peer.Exchange.{Exchange}
use Rattle.system_model.specs.declared.system.System.{System}
use Rattle.system_model.specs.Text.{Instant}
use Rattle.calling_sequence.specs.declared.run_end.RunEnd.{RunEnd}
use Rattle.step_master.specs.Histories.{PeerHistory, talk_in}
use Rattle.command_line.specs.Line.{BenchLine, built_in_host}
use Rattle.generated_system.specs.Counts.{is_restore}
use Rattle.generated_system.specs.Generated.{bench_plan, generated_bound, generated_system}
use Rattle.run_program.specs.declared.outcome.End.{End}
use Rattle.run_program.specs.declared.outcome.End.TheVariants as O
use Rattle.run_program.specs.declared.outcome.Numbers.{Numbers}
use Rattle.run_program.specs.declared.outcome.Outcome.{Outcome}
use Rattle.run_program.specs.declared.outcome.Outcome.TheVariants.{Words, Memory, File, Start, Ran, Checked, Untold}
use Rattle.run_program.specs.Facts.{EndsSo, RunFacts}
use Rattle.run_program.specs.Happened.{Happened, Scene, scene}
use Rattle.run_program.specs.Message.{CutsShort, Reports, message, status_of, summary_text}
use Rattle.run_program.specs.Rows.{IsFinished}
use Rattle.run_program.specs.Runs.{Broke, FailsToStart, HasRun, IsEndOf, RunCompletes, TakesBack, Task, Went, names_of}

-- ---- the numbers of a run

-- how many exchanges there were in these histories, closing ones too, and how many of them were Restore; each instance's counts are of 64 bits, and stay at their last value
abbrev pub counted : ℕ → ℕ
counted n = min n (2 ^ 64 - 1)

abbrev pub exchanges_in : List PeerHistory → ℕ
exchanges_in histories = sum_by (λ (l : PeerHistory). counted (length (talk_in l))) histories

abbrev pub restores_in : List PeerHistory → ℕ
restores_in histories =
    sum_by (λ (l : PeerHistory). counted (count_by (λ (e : Exchange). is_restore e.call) (talk_in l))) histories

-- the numbers are those of these instants and of these histories
pub record AreNumbersOf (numbers : Numbers) (is : List Instant) (histories : List PeerHistory) :
    Type 0 where
  pub instants : numbers.instants ≡ length is
  pub calls : numbers.calls ≡ exchanges_in histories
  pub rollbacks : numbers.rollbacks ≡ restores_in histories

-- the numbers are those of the run; one that didn't begin has none
abbrev pub HasNumbers : Numbers → {task : Task} {system : System} {end : RunEnd}
    {old new : Scene} → HasRun task system end old new → Type 0
HasNumbers numbers (Went g) = AreNumbersOf numbers g.session.is g.session.histories
HasNumbers numbers (Broke bad is f) = Unit {0}

-- a run ended, the outcome tells its end, and these are its numbers
pub record RanSo (e : End) (numbers : Numbers) (task : Task) (system : System)
    (old new : Scene) : Type 0 where
  pub end : RunEnd
  pub named : IsEndOf (names_of system) end e
  pub run : HasRun task system end old new
  pub numbered : HasNumbers numbers run

-- what holds of an outcome, and of numbers beside it, once it is known what to run
abbrev pub RanFacts : Outcome → Numbers → Task → System → Scene → Scene → Type 0
RanFacts (Ran e) numbers task system old new = RanSo e numbers task system old new
RanFacts Words numbers task system old new = ⊥
RanFacts Memory numbers task system old new = TakesBack task system old new
RanFacts (File path fault) numbers task system old new = ⊥
RanFacts (Start name fault) numbers task system old new =
    RunFacts (Start name fault) task system old new
RanFacts Checked numbers task system old new = ⊥
RanFacts Untold numbers task system old new = ⊥

-- the run came to the stop, or to where a component asked for the end
abbrev pub is_well : End → Bool
is_well O.Stop = true
is_well O.Asked = true
is_well (O.EventLimit point) = false
is_well (O.FixedStep component at end) = false
is_well (O.Range component variable x) = false
is_well (O.Bad component why) = false
is_well (O.Held point) = false
is_well O.WriteFault = false

-- the outcome is that of such a run
abbrev pub has_finished : Outcome → Bool
has_finished (Ran e) = is_well e
has_finished Words = false
has_finished Memory = false
has_finished (File path fault) = false
has_finished (Start name fault) = false
has_finished Checked = false
has_finished Untold = false

-- ---- what is run for a line

-- the generated system, on the built-in machines, which have no folders
abbrev pub system_for : BenchLine → System
system_for line = generated_system line.seed line.components

abbrev pub task_for : BenchLine → Task
task_for line = record {
  plan = bench_plan line.workers;
  host = built_in_host;
  bound = generated_bound line.seed line.components;
  folders = replicate line.components [];
}

-- its trace goes to a sink that keeps nothing, and fails at nothing
abbrev pub unkept : Scene → Scene
unkept s = scene s.spawner (record { content = None; puts = None; faults = 0 })

-- the run came to the stop, or to where a component asked for the end, and the text is the line of its numbers
pub record Finishes (line : BenchLine) (old new : Scene) (text : List ℕ) : Type 0 where
  pub end : RunEnd
  pub finished : IsFinished end
  pub run : RunCompletes (task_for line) (system_for line) end (unkept old) (unkept new)
  pub text_is : text ≡ summary_text (length run.session.is) (exchanges_in run.session.histories)
      (restores_in run.session.histories)

-- the line is put in one piece, or that put fails
abbrev pub Tells : List ℕ → Outcome → SinkView → SinkView → Type 0
Tells text Checked old new = new ≡ with_piece old text
Tells text Untold old new = CutsShort text old new
Tells text Words old new = ⊥
Tells text Memory old new = ⊥
Tells text (File path fault) old new = ⊥
Tells text (Start name fault) old new = ⊥
Tells text (Ran e) old new = ⊥

-- ---- the outcomes

-- a run that came to the stop, or to where a component asked for the end, is told by its numbers alone; of any other the end is told
abbrev pub BenchFacts : Outcome → BenchLine → Scene → Scene → Type 0
BenchFacts Words line old new = ⊥
BenchFacts Memory line old new = TakesBack (task_for line) (system_for line) old new
BenchFacts (File path fault) line old new = ⊥
BenchFacts (Start name fault) line old new =
    FailsToStart (task_for line) (system_for line) name fault old new
BenchFacts (Ran e) line old new =
    (is_well e ≡ false) × EndsSo e (task_for line) (system_for line) (unkept old) (unkept new) ×
    (new.out ≡ old.out)
BenchFacts Checked line old new =
    (text : List ℕ) × Finishes line old new text × (new.out ≡ with_piece old.out text)
BenchFacts Untold line old new =
    (text : List ℕ) × Finishes line old new text × CutsShort text old.out new.out

-- no file is asked for, and the outcome's line is put on err, if it has one
pub record RunsBench (h : Happened) (line : BenchLine) : Type 0 where
  pub files : h.new.folder ≡ h.old.folder
  pub outcome : Outcome
  pub facts : BenchFacts outcome line h.old.run h.new.run
  pub told : Reports (message outcome) (status_of outcome) h.status h.err h.err_after
