-- A run in two parts: what `checkpoint` and `resume` do.
use Rattle.std.specs.Prelude.{◌≡◌, ℕ, ◌≤◌, true, List, Some, map}
use Rattle.sim_base.specs.Folder.{FolderView}
use Rattle.fmu_peer.specs.View.{View}
use Rattle.system_model.specs.declared.plan.Plan.{Plan}
use Rattle.system_model.specs.declared.system.System.{System}
use Rattle.system_model.specs.Sound.{IsSound}
use Rattle.system_model.specs.Text.{Instant}
use Rattle.run_model.specs.Behaved.{WellBehaved}
use Rattle.run_model.specs.Run.{Run, Situation}
use Rattle.run_rest.specs.Held.{Held, HeldAt}
use Rattle.run_rest.specs.Laws.{StepsWithin}
use Rattle.run_rest.specs.Packing.{ReadsBack}
use Rattle.machine_courses.specs.Held.{HoldsRun, checkpoint_of, ends_before, packings_of}
use Rattle.machine_courses.specs.Kept.{PutsState, TakesState}
use Rattle.machine_courses.specs.Outcomes.{PutsRunIn, rest_after}
use Rattle.session_laws.specs.Traced.{AreMachinesOf, HoldsWell, IsRunOf, TracesWellIn, output_of}
use Rattle.system_checkpoint.specs.declared.snapshot.Snapshot.{Snapshot}
use Rattle.slot_calls.specs.declared.bad_answer.BadAnswer.{BadAnswer}
use Rattle.calling_sequence.specs.declared.run_end.RunEnd.{RunEnd}
use Rattle.calling_sequence.specs.declared.run_end.RunEnd.TheVariants as E
use Rattle.step_master.specs.Sessions.{Account, HeldSession, ResumedSession}
use Rattle.step_master.specs.Histories.{AreOver}
use Rattle.command_line.specs.Line.{CheckpointLine, ResumeLine}
use Rattle.system_files.specs.declared.loaded.Loaded.{Loaded}
use Rattle.system_files.specs.declared.named.FileFault.TheVariants.{Unread, Missing, TooBig, Broken}
use Rattle.system_files.specs.Files.{Absent, Faulty, Long}
use Rattle.system_files.specs.Holding.{FileFailsHeld, LoadsHeld, search_by}
use Rattle.system_files.specs.Loads.{ReadsSome}
use Rattle.system_files.specs.Order.{Found, Search}
use Rattle.checkpoint_loading.specs.Loading.{FailsReading, Lacks, Loads, NoCheckpoint, Question, ReadsFew, Rests}
use Rattle.run_program.specs.declared.outcome.Outcome.{Outcome}
use Rattle.run_program.specs.declared.outcome.Outcome.TheVariants.{Words, Memory, File, Start, Ran, Checked, Untold}
use Rattle.run_program.specs.declared.outcome.End.{End}
use Rattle.run_program.specs.Facts.{Calm, task_of}
use Rattle.run_program.specs.Happened.{Happened, Outside, Scene}
use Rattle.run_program.specs.Message.{Reports, checkpoint_message, message, status_of}
use Rattle.run_program.specs.Runs.{FailsToStart, Fails, IsEndOf, RunsPeers, TakesBack, Task, names_of}

-- ---- the peers

-- an account of peers that were started for the system, run as the task asks to this end, and taken back
pub record IsAccountOf (task : Task) (system : System) (end : RunEnd) (a : Account)
    (old new : Scene) : Type 0 where
  pub system_is : a.system ≡ system
  pub plan_is : a.plan ≡ task.plan
  pub end_is : a.end ≡ end
  pub before_is : a.before ≡ old.out
  pub after_is : a.after ≡ new.out
  pub peers : RunsPeers task system a.olds a.news old.spawner new.spawner
  pub sound : IsSound system

-- ---- a run that is held

-- from this point on the run was held where it first could be, or it ended before. Each peer that isn't spared after a Fatal of its source is over. Of told machines the checkpoint is that of their run's snapshot there, and where their run ended before, it came to no such point. Where they behave well, and put their states well, nothing but a call that failed breaks their run off
pub record Holds (task : Task) (system : System) (at : ℕ) (end : RunEnd)
    (old new : Scene) : Type 0 where
  pub account : Account
  pub is : IsAccountOf task system end account old new
  pub bound_is : account.bound ≡ task.bound
  pub same : map (λ (v : View). v.fixed) account.news ≡ map (λ (v : View). v.fixed) account.olds
  pub session : HeldSession account at
  pub over : AreOver session.histories
  pub run : (r : Run) → IsRunOf system task.bound account.olds r → r.plan ≡ task.plan →
      HoldsRun r at session.outcome session.piece
  pub none : (r : Run) → IsRunOf system task.bound account.olds r → r.plan ≡ task.plan →
      StepsWithin r → ends_before session.outcome ≡ true → (is : List Instant) (z : Situation) →
      HeldAt r at is z → ⊥
  pub well : (r : Run) → IsRunOf system task.bound account.olds r → r.plan ≡ task.plan →
      WellBehaved r → ((i : ℕ) → PutsState r i) →
      HoldsWell account r at session.outcome session.piece

-- or the answer to an Instantiate isn't good
pub data HasHeld (task : Task) (system : System) (at : ℕ) (end : RunEnd) (old new : Scene) : Type 0 where
  WentOn : Holds task system at end old new → HasHeld task system at end old new
  BrokeOff : (bad : BadAnswer) → end ≡ E.Bad bad → Fails task system bad old new →
      HasHeld task system at end old new

abbrev pub HoldsSo : End → Task → System → ℕ → Scene → Scene → Type 0
HoldsSo e task system at old new =
    (end : RunEnd) × IsEndOf (names_of system) end e × HasHeld task system at end old new

-- what holds of an outcome once the system is known
abbrev pub HoldFacts : Outcome → Task → System → ℕ → Scene → Scene → Type 0
HoldFacts Words task system at old new = ⊥
HoldFacts Memory task system at old new = TakesBack task system old new
HoldFacts (File path fault) task system at old new = ⊥
HoldFacts (Start name fault) task system at old new = FailsToStart task system name fault old new
HoldFacts (Ran e) task system at old new = HoldsSo e task system at old new
HoldFacts Checked task system at old new = ⊥
HoldFacts Untold task system at old new = ⊥

-- what holds where nothing is loaded
abbrev pub LoadHeldFacts : Outcome → Search → Plan → FolderView → FolderView → Type 0
LoadHeldFacts Words s plan old new = ⊥
LoadHeldFacts Memory s plan old new = ReadsSome s old new
LoadHeldFacts (File path fault) s plan old new = FileFailsHeld s plan fault path old new
LoadHeldFacts (Start name fault) s plan old new = ⊥
LoadHeldFacts (Ran e) s plan old new = ⊥
LoadHeldFacts Checked s plan old new = ⊥
LoadHeldFacts Untold s plan old new = ⊥

abbrev pub search_for : CheckpointLine → Search
search_for line = search_by line.run.directory line.run.plan

-- nothing is loaded, and nothing else is done; or what is loaded is run until it is held
pub data CheckpointFacts (outcome : Outcome) (line : CheckpointLine) (old new : Outside) : Type 0 where
  Unloaded : Calm old.run new.run →
      LoadHeldFacts outcome (search_for line) line.run.plan old.folder new.folder →
      CheckpointFacts outcome line old new
  OfSystem : (loaded : Loaded) →
      LoadsHeld (search_for line) line.run.plan (Found loaded) old.folder new.folder →
      HoldFacts outcome (task_of line.run loaded) loaded.system line.at old.run new.run →
      CheckpointFacts outcome line old new

-- the outcome's line is put on err, if it has one, and its status answered
pub record RunsCheckpoint (h : Happened) (line : CheckpointLine) : Type 0 where
  pub outcome : Outcome
  pub facts : CheckpointFacts outcome line h.old h.new
  pub told : Reports (message outcome) (status_of outcome) h.status h.err h.err_after

-- ---- a run that goes on

-- the files that a line asks for
abbrev pub question_of : ResumeLine → Question
question_of line = record { directory = line.directory; file = line.file }

-- the plan that the checkpoint keeps, with the workers and the link of the line
abbrev pub rest_plan : ResumeLine → Snapshot → Plan
rest_plan line held = record held.plan { workers = line.workers; link = line.link }

-- what is to be run of it
abbrev pub rest_of : ResumeLine → Loaded → Snapshot → Task
rest_of line loaded held = record {
  plan = rest_plan line held;
  host = line.host;
  bound = loaded.bound;
  folders = loaded.folders;
}

-- the run went on from what was held to its end. Each peer that isn't spared after a Fatal of its source is over. Of told machines whose states are read back as they were, where what was held is the checkpoint of their run, what is put is what is left of that run. Where they behave well, and take in their states well, nothing but a call that failed breaks it off, or a put
pub record GoesOn (task : Task) (system : System) (held : Snapshot) (end : RunEnd)
    (old new : Scene) : Type 0 where
  pub account : Account
  pub is : IsAccountOf task system end account old new
  pub session : ResumedSession account held
  pub over : AreOver session.histories
  pub run : (r : Run) (prefix : List Instant) (z : Situation) → r.system ≡ system →
      AreMachinesOf account.olds r.machines → ReadsBack r (packings_of r) → Held r prefix z →
      r.plan.start ≤ z.t → held ≡ checkpoint_of r z →
      PutsRunIn r (rest_after prefix) (output_of account) end
  pub well : (r : Run) (prefix : List Instant) (z : Situation) → r.system ≡ system →
      r.bound ≡ task.bound → AreMachinesOf account.olds r.machines → WellBehaved r →
      ReadsBack r (packings_of r) → ((i : ℕ) → TakesState r task.plan i) → Held r prefix z →
      r.plan.start ≤ z.t → held ≡ checkpoint_of r z →
      TracesWellIn account r (rest_after prefix) end

-- or the answer to an Instantiate isn't good
pub data HasGoneOn (task : Task) (system : System) (held : Snapshot) (end : RunEnd)
    (old new : Scene) : Type 0 where
  WentBack : GoesOn task system held end old new → HasGoneOn task system held end old new
  BrokeOff : (bad : BadAnswer) → end ≡ E.Bad bad → Fails task system bad old new →
      HasGoneOn task system held end old new

abbrev pub GoesOnSo : End → Task → System → Snapshot → Scene → Scene → Type 0
GoesOnSo e task system held old new =
    (end : RunEnd) × IsEndOf (names_of system) end e × HasGoneOn task system held end old new

-- what holds of an outcome once it is known what goes on
abbrev pub RestFacts : Outcome → Task → System → Snapshot → Scene → Scene → Type 0
RestFacts Words task system held old new = ⊥
RestFacts Memory task system held old new = TakesBack task system old new
RestFacts (File path fault) task system held old new = ⊥
RestFacts (Start name fault) task system held old new = FailsToStart task system name fault old new
RestFacts (Ran e) task system held old new = GoesOnSo e task system held old new
RestFacts Checked task system held old new = ⊥
RestFacts Untold task system held old new = ⊥

-- what holds where nothing is loaded
abbrev pub LoadRestFacts : Outcome → Question → FolderView → FolderView → Type 0
LoadRestFacts Words q old new = ⊥
LoadRestFacts Memory q old new = ReadsFew q old new
LoadRestFacts (File path Unread) q old new = FailsReading q path old new
LoadRestFacts (File path Missing) q old new = Loads q (Lacks path Absent) old new
LoadRestFacts (File path TooBig) q old new = Loads q (Lacks path Long) old new
LoadRestFacts (File path (Broken rule place ports)) q old new =
    Loads q (Lacks path (Faulty rule place ports)) old new
LoadRestFacts (Start name fault) q old new = ⊥
LoadRestFacts (Ran e) q old new = ⊥
LoadRestFacts Checked q old new = ⊥
LoadRestFacts Untold q old new = ⊥

-- nothing is loaded, and nothing else is done; or what is loaded goes on
pub data ResumeFacts (outcome : Outcome) (line : ResumeLine) (old new : Outside) : Type 0 where
  NothingHeld : Calm old.run new.run →
      LoadRestFacts outcome (question_of line) old.folder new.folder →
      ResumeFacts outcome line old new
  OfHeld : (loaded : Loaded) (held : Snapshot) →
      Loads (question_of line) (Rests loaded held) old.folder new.folder →
      RestFacts outcome (rest_of line loaded held) loaded.system held old.run new.run →
      ResumeFacts outcome line old new

-- the file holds no checkpoint of the system, which is told; or the outcome's line is put on err, if it has one, and its status answered
pub data RunsResume (h : Happened) (line : ResumeLine) : Type 0 where
  NoneThere : (at : ℕ) → Calm h.old.run h.new.run →
      Loads (question_of line) (NoCheckpoint at) h.old.folder h.new.folder →
      Reports (Some (checkpoint_message line.file at)) 12 h.status h.err h.err_after →
      RunsResume h line
  Resumed : (outcome : Outcome) → ResumeFacts outcome line h.old h.new →
      Reports (message outcome) (status_of outcome) h.status h.err h.err_after →
      RunsResume h line
