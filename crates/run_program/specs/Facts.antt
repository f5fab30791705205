-- What holds of each outcome of the program.
use Rattle.std.specs.Prelude.{◌≡◌, ℕ, List, Option, Some, None}
use Rattle.sim_base.specs.Folder.{FolderView}
use Rattle.sim_base.specs.Sink.{with_piece}
use Rattle.system_model.specs.declared.system.System.{System}
use Rattle.calling_sequence.specs.declared.run_end.RunEnd.{RunEnd}
use Rattle.command_line.specs.Line.{Check, IsLine, Line, One, Run, RunLine, directory_of, resolution_of, run_in}
use Rattle.system_files.specs.declared.loaded.Loaded.{Loaded}
use Rattle.system_files.specs.declared.subject.Subject.{Subject}
use Rattle.system_files.specs.declared.subject.Subject.TheVariants as what
use Rattle.system_files.specs.Loads.{FileFails, Loads, ReadsSome}
use Rattle.system_files.specs.Order.{Found, Search, search_of}
use Rattle.run_program.specs.declared.outcome.Outcome.{Outcome}
use Rattle.run_program.specs.declared.outcome.Outcome.TheVariants.{Words, Memory, File, Start, Ran, Checked, Untold}
use Rattle.run_program.specs.declared.outcome.End.{End}
use Rattle.run_program.specs.Happened.{Outside, Scene}
use Rattle.run_program.specs.Message.{CutsShort, size_text}
use Rattle.run_program.specs.Runs.{FailsToStart, HasRun, IsEndOf, TakesBack, Task, names_of}

-- no peer was started, and nothing was put
abbrev pub Calm : Scene → Scene → Type 0
Calm old new = new ≡ old

-- ---- what is asked for

-- `one` asks for the FMU in a directory, the others for the system there
abbrev pub subject_of : Line → Subject
subject_of (One line) = what.Fmu
subject_of (Run line) = what.System
subject_of (Check line) = what.System

-- what a line asks the files for
abbrev pub search_for : Line → Search
search_for line = search_of (subject_of line) (directory_of line) (resolution_of line)

-- the files were read in their order, and say what the line asks for
abbrev pub LoadsLine : Line → Loaded → FolderView → FolderView → Type 0
LoadsLine line loaded old new = Loads (search_for line) (Found loaded) old new

-- what is to be run of it
abbrev pub task_of : RunLine → Loaded → Task
task_of asked loaded =
    record { plan = asked.plan; host = asked.host; bound = loaded.bound; folders = loaded.folders }

-- ---- a run

-- a run ended, and the outcome tells its end
abbrev pub EndsSo : End → Task → System → Scene → Scene → Type 0
EndsSo e task system old new =
    (end : RunEnd) × IsEndOf (names_of system) end e × HasRun task system end old new

-- what holds of an outcome where a peer wasn't started, or memory ran out for it
abbrev pub StartFacts : Outcome → Task → System → Scene → Scene → Type 0
StartFacts Words task system old new = ⊥
StartFacts Memory task system old new = TakesBack task system old new
StartFacts (File path fault) task system old new = ⊥
StartFacts (Start name fault) task system old new = FailsToStart task system name fault old new
StartFacts (Ran e) task system old new = ⊥
StartFacts Checked task system old new = ⊥
StartFacts Untold task system old new = ⊥

-- what holds of an outcome once it is known what to run
abbrev pub RunFacts : Outcome → Task → System → Scene → Scene → Type 0
RunFacts Words task system old new = ⊥
RunFacts Memory task system old new = TakesBack task system old new
RunFacts (File path fault) task system old new = ⊥
RunFacts (Start name fault) task system old new = FailsToStart task system name fault old new
RunFacts (Ran e) task system old new = EndsSo e task system old new
RunFacts Checked task system old new = ⊥
RunFacts Untold task system old new = ⊥

-- ---- a check

-- no peer was started, and the size of the system was put in one piece
pub record TellsSize (loaded : Loaded) (old new : Scene) : Type 0 where
  pub spawner : new.spawner ≡ old.spawner
  pub out : new.out ≡ with_piece old.out (size_text loaded.system loaded.bound.unreached)

-- no peer was started, and that put failed
pub record FailsToTell (loaded : Loaded) (old new : Scene) : Type 0 where
  pub spawner : new.spawner ≡ old.spawner
  pub out : CutsShort (size_text loaded.system loaded.bound.unreached) old.out new.out

abbrev pub CheckFacts : Outcome → Loaded → Scene → Scene → Type 0
CheckFacts Words loaded old new = ⊥
CheckFacts Memory loaded old new = ⊥
CheckFacts (File path fault) loaded old new = ⊥
CheckFacts (Start name fault) loaded old new = ⊥
CheckFacts (Ran e) loaded old new = ⊥
CheckFacts Checked loaded old new = TellsSize loaded old new
CheckFacts Untold loaded old new = FailsToTell loaded old new

-- what holds of an outcome once the system is known: of a run where one is asked for, else of a check
abbrev pub LoadedFacts : Option RunLine → Outcome → Loaded → Scene → Scene → Type 0
LoadedFacts (Some asked) outcome loaded old new =
    RunFacts outcome (task_of asked loaded) loaded.system old new
LoadedFacts None outcome loaded old new = CheckFacts outcome loaded old new

abbrev pub SystemFacts : Line → Outcome → Loaded → Scene → Scene → Type 0
SystemFacts line outcome loaded old new = LoadedFacts (run_in line) outcome loaded old new

-- ---- the files

-- what holds where nothing is loaded
abbrev pub LoadFacts : Outcome → Line → FolderView → FolderView → Type 0
LoadFacts Words line old new = ⊥
LoadFacts Memory line old new = ReadsSome (search_for line) old new
LoadFacts (File path fault) line old new = FileFails (search_for line) fault path old new
LoadFacts (Start component fault) line old new = ⊥
LoadFacts (Ran end) line old new = ⊥
LoadFacts Checked line old new = ⊥
LoadFacts Untold line old new = ⊥

-- nothing is loaded, and nothing else is done; or what is loaded is run or checked
pub data LineFacts (outcome : Outcome) (line : Line) (old new : Outside) : Type 0 where
  Unloaded : Calm old.run new.run → LoadFacts outcome line old.folder new.folder →
      LineFacts outcome line old new
  OfSystem : (loaded : Loaded) → LoadsLine line loaded old.folder new.folder →
      SystemFacts line outcome loaded old.run new.run → LineFacts outcome line old new

-- ---- the arguments

-- the command that the arguments are, and what holds of its outcome
pub record RunsLine (outcome : Outcome) (words : List (List ℕ)) (old new : Outside) : Type 0 where
  pub line : Line
  pub is : IsLine words line
  pub only : (other : Line) → IsLine words other → line ≡ other
  pub facts : LineFacts outcome line old new

-- why no line is read: the arguments are none, or memory runs out
abbrev pub LacksLine : Outcome → List (List ℕ) → Type 0
LacksLine Words words = (line : Line) → IsLine words line → ⊥
LacksLine Memory words = Unit {0}
LacksLine (File path fault) words = ⊥
LacksLine (Start component fault) words = ⊥
LacksLine (Ran end) words = ⊥
LacksLine Checked words = ⊥
LacksLine Untold words = ⊥

-- no line is read, and nothing is done
pub record ReadsNoLine (outcome : Outcome) (words : List (List ℕ)) (old new : Outside) : Type 0
  where
    pub why : LacksLine outcome words
    pub same : new ≡ old

-- what holds of an outcome of the program
pub data Facts (outcome : Outcome) (words : List (List ℕ)) (old new : Outside) : Type 0 where
  WithLine : RunsLine outcome words old new → Facts outcome words old new
  WithoutLine : ReadsNoLine outcome words old new → Facts outcome words old new
