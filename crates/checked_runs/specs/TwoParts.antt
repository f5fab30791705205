-- A run in two parts: what `checkpoint` and then `resume` write is what `run` writes (FMI 3.0, 2.2.6: FMU state).
use Rattle.std.specs.Prelude.{◌≡◌, ◌≢◌, ◌⊎◌, ℕ, ◌<◌, List, [], ◌∷◌, ◌++◌, length, map, All, Some, Result, Ok, option_map}
use Rattle.std.specs.List.{slice_get}
use Rattle.sim_base.specs.Asking.{with_reads}
use Rattle.sim_base.specs.Causes.{Rose}
use Rattle.sim_base.specs.ReadNotes.{read_of}
use Rattle.sim_base.specs.declared.folder.ReadFault.{ReadFault}
use Rattle.sim_base.specs.declared.read_book.ReadNote.{ReadNote}
use Rattle.value_types.specs.declared.shape.Shape.{Shape}
use Rattle.fmu_peer.specs.Machine.{Machine}
use Rattle.fmu_peer.specs.Start.{SpawnerView}
use Rattle.system_model.specs.declared.plan.EndKind.{EndKind}
use Rattle.system_model.specs.declared.system.Component.{Component}
use Rattle.system_model.specs.Text.{Instant, end_text}
use Rattle.system_model.specs.Bounds.{BindsParameters}
use Rattle.system_model.specs.Plans.{IsPlan}
use Rattle.system_model.specs.Sound.{IsSound}
use Rattle.run_model.specs.Behaved.{WellBehaved}
use Rattle.run_model.specs.Machines.{AreMachines}
use Rattle.run_model.specs.Run.{Run, Situation}
use Rattle.run_rest.specs.Held.{HeldAt}
use Rattle.run_rest.specs.Packing.{ReadsBack}
use Rattle.trace_text.specs.Holding.{IsHoldable}
use Rattle.system_checkpoint.specs.Spelling.{spelling}
use Rattle.calling_sequence.specs.Ends.{header_of, pieces_of, text_of, trace_pieces}
use Rattle.calling_sequence.specs.Puts.{with_pieces}
use Rattle.machine_courses.specs.Held.{checkpoint_of, packings_of}
use Rattle.machine_courses.specs.Kept.{PutsState, TakesState}
use Rattle.held_laws.specs.BuiltIns.{AreBuiltIn}
use Rattle.command_line.specs.Line.{CheckpointLine, IsCheckpointLine, IsLine, IsResumeLine, ResumeLine, RunLine}
use Rattle.command_line.specs.Line as lines
use Rattle.system_files.specs.declared.loaded.Loaded.{Loaded}
use Rattle.system_files.specs.Files.{Holds}
use Rattle.system_files.specs.Order.{Comes, Found}
use Rattle.run_program.specs.Facts.{search_for}
use Rattle.run_program.specs.Happened.{Happened}
use Rattle.run_program.specs.Peers.{AreKnown}
use Rattle.run_program.specs.Rows.{ReadsAlike}
use Rattle.run_program.specs.TraceCheck.{KeepsRows}

-- ---- the run

-- what the three calls share: the line of the run, the system that its files make, the machines of its components, and what the reads of its files got
pub record Shared : Type 0 where
  pub asked : RunLine
  pub loaded : Loaded
  pub machines : List Machine
  pub reads : List ReadNote

-- the run of the system by the plan of the line
abbrev pub run_in : Shared → Run
run_in x = record {
  system = x.loaded.system;
  bound = x.loaded.bound;
  machines = x.machines;
  plan = x.asked.plan;
}

-- by this host the spawner starts the machines for the components
pub record StartsMachines (spawner : SpawnerView) (host : List ℕ) (x : Shared) : Type 0 where
  pub count : length x.machines ≡ length x.loaded.system.components
  pub each : (i : ℕ) (c : Component) (m : Machine) →
      slice_get x.loaded.system.components i ≡ Some c → slice_get x.machines i ≡ Some m →
      option_map (λ (make : Shape → Machine). make c.shape)
      (spawner.makes host c.shape.identifier) ≡ Some m

-- the FMUs answer well along the run, put their states as bytes well, and each state is read back as it was saved
pub record PutsStates (r : Run) : Type 0 where
  pub well : WellBehaved r
  pub puts : (i : ℕ) → PutsState r i
  pub read_back : ReadsBack r (packings_of r)

-- they answer well with this version of the link, too, and take the bytes in well
pub record TakesStates (r : Run) (link : ℕ) : Type 0 where
  pub well : WellBehaved (record r { plan = record r.plan { link = link } })
  pub takes : (i : ℕ) → TakesState r (record r.plan { link = link }) i

-- built-in machines do both, where they can tell what they are asked of their Clocks, and their states have at most 2^20 bytes
abbrev pub BuiltInsGoInParts : Type 0
BuiltInsGoInParts =
    (r : Run) (link : ℕ) → IsSound r.system → AreMachines r → BindsParameters r.system r.bound →
    IsPlan r.plan → AreBuiltIn r → PutsStates r × TakesStates r link

-- ---- the calls

-- no peer was lost and none is unknown, and no put failed
pub record LosesNothing (h : Happened) : Type 0 where
  pub peers : h.status ≢ 5
  pub puts : h.status ≢ 10

-- a call of `run` that finds the system, and has the memory for it
pub record IsRun (h : Happened) (x : Shared) : Type 0 where
  pub keeps : KeepsRows h
  pub line : IsLine h.words (lines.Run x.asked)
  pub alike : ReadsAlike h x.reads
  pub paths : List (List ℕ)
  pub comes : Comes (search_for (lines.Run x.asked)) x.reads paths (Found x.loaded)
  pub known : AreKnown x.asked.host h.old.run.spawner x.loaded.system.components
  pub starts : StartsMachines h.old.run.spawner x.asked.host x
  pub all_started : Rose h.old.run.spawner.faults h.new.run.spawner.faults → ⊥
  pub loses : LosesNothing h
  pub memory : h.status ≢ 11

-- a call reads these first, and then only what other reads got
pub record Rereads (h : Happened) (first reads : List ReadNote) : Type 0 where
  pub later : List ReadNote
  pub told : h.new.folder ≡ with_reads h.old.folder (first ++ later)
  pub same : (path : List ℕ) (answer : Result (List ℕ) ReadFault) → Holds later path answer →
      Holds reads path answer

-- the line of `checkpoint` with the options of the run, but for the number of workers
abbrev pub checkpoint_line : RunLine → (workers at : ℕ) → CheckpointLine
checkpoint_line asked workers at = record {
  run = record asked { plan = record asked.plan { workers = workers } };
  at = at;
}

-- a call of `checkpoint` over the files of the run
pub record IsCheckpoint (h : Happened) (x : Shared) (at : ℕ) : Type 0 where
  pub keeps : KeepsRows h
  pub workers : ℕ
  pub line : IsCheckpointLine h.words (checkpoint_line x.asked workers at)
  pub rereads : Rereads h [] x.reads
  pub starts : StartsMachines h.old.run.spawner x.asked.host x
  pub loses : LosesNothing h

-- a call of `resume` over the files of the run, with any host of its FMUs, number of workers and version of the link, where the file has these bytes
pub record IsResume (h : Happened) (x : Shared) (bytes : List ℕ) (rest : ResumeLine) : Type 0 where
  pub keeps : KeepsRows h
  pub line : IsResumeLine h.words (record rest { directory = x.asked.directory })
  pub rereads : Rereads h (read_of rest.file (Ok bytes) ∷ []) x.reads
  pub starts : StartsMachines h.old.run.spawner rest.host x
  pub loses : LosesNothing h

-- ---- what they write

-- these pieces were put on out
abbrev pub Puts : Happened → List (List ℕ) → Type 0
Puts h pieces = h.new.run.out ≡ with_pieces h.old.run.out pieces

-- memory ran out, and nothing was put
abbrev pub RunsOut : Happened → Type 0
RunsOut h = (h.status ≡ 11) × (h.new.run.out ≡ h.old.run.out)

-- the bytes of the checkpoint where a step begins
abbrev pub checkpoint_text : Run → Situation → List ℕ
checkpoint_text r z = spelling (header_of r.system r.plan) (checkpoint_of r z)

-- the last of the first instants is at the point, and those after it are later
pub record IsCutAfter (prefix later : List Instant) (t : ℕ) : Type 0 where
  pub before : List Instant
  pub last : Instant
  pub ends : prefix ≡ before ++ last ∷ []
  pub there : last.t ≡ t
  pub after : All (λ (i : Instant). t < i.t) later

-- the text of these instants and the end
abbrev pub rest_pieces : List Instant → EndKind → ℕ → List (List ℕ)
rest_pieces is kind point = map text_of is ++ end_text kind point ∷ []

-- what the run put, cut after its last instant at the point, goes on with what the resumed run put, and no more; the status is the same
pub record Joins (h j : Happened) (r : Run) (prefix : List Instant) (t : ℕ) : Type 0 where
  pub later : List Instant
  pub kind : EndKind
  pub point : ℕ
  pub cut : IsCutAfter prefix later t
  pub whole : Puts h (pieces_of r.system r.plan prefix ++ rest_pieces later kind point)
  pub rest : Puts j (rest_pieces later kind point)
  pub status : j.status ≡ h.status

-- the end line of the run alone, with its status
pub record EndsAlone (h k : Happened) (r : Run) : Type 0 where
  pub is : List Instant
  pub kind : EndKind
  pub point : ℕ
  pub whole : Puts h (trace_pieces r.system r.plan is kind point)
  pub line : Puts k (end_text kind point ∷ [])
  pub status : k.status ≡ h.status

-- ---- the law

-- each resume of the bytes puts what the run put after its last instant at the point, or memory runs out
abbrev pub AreResumed : Happened → Shared → List Instant → ℕ → List ℕ → Type 0
AreResumed h x prefix t bytes =
    (j : Happened) (rest : ResumeLine) → IsResume j x bytes rest →
    TakesStates (run_in x) rest.link → RunsOut j ⊎ Joins h j (run_in x) prefix t

-- what `checkpoint` comes to
pub data IsParted (h k : Happened) (x : Shared) (at : ℕ) : Type 0 where
  OutOfMemory : RunsOut k → IsParted h k x at
  -- the run comes to a step, from a first point from `at` on: the bytes of the checkpoint there, with status 0
  AtStep : (prefix : List Instant) (z : Situation) → HeldAt (run_in x) at prefix z → k.status ≡ 0 →
      Puts k (checkpoint_text (run_in x) z ∷ []) →
      AreResumed h x prefix z.t (checkpoint_text (run_in x) z) → IsParted h k x at
  -- it comes to none
  AtNone : ((prefix : List Instant) (z : Situation) → HeldAt (run_in x) at prefix z → ⊥) →
      EndsAlone h k (run_in x) → IsParted h k x at

-- what `checkpoint` and then `resume` put is what `run` puts
abbrev pub RunsInParts : Type 0
RunsInParts =
    (h k : Happened) (x : Shared) (at : ℕ) → IsRun h x → IsCheckpoint k x at →
    IsHoldable x.loaded.system x.asked.plan → PutsStates (run_in x) → IsParted h k x at
