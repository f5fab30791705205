-- Two calls of the program with the same arguments: over documents that stand in one another, and over the one document in which each stands in place of its Component (SSP 1.0: Component; source, type).
use Rattle.std.specs.Prelude.{◌≡◌, ◌≢◌, ℕ, List, ◌++◌, map, All, None, Some}
use Rattle.sim_base.specs.Causes.{Rose}
use Rattle.sim_base.specs.declared.read_book.ReadNote.{ReadNote}
use Rattle.value_types.specs.declared.shape.Shape.{Shape}
use Rattle.fmu_peer.specs.Machine.{Machine}
use Rattle.fmu_peer.specs.View.{View}
use Rattle.system_model.specs.declared.system.Component.{Component}
use Rattle.run_model.specs.Run.{Run}
use Rattle.run_model.specs.Behaved.{WellBehaved}
use Rattle.command_line.specs.Line.{IsLine, Line, RunLine, run_in}
use Rattle.system_loading.specs.declared.outline.Outline.{Outline}
use Rattle.system_loading.specs.declared.parameters.GivenBinding.{GivenBinding}
use Rattle.system_files.specs.declared.loaded.Loaded.{Loaded}
use Rattle.system_files.specs.Order.{Found}
use Rattle.inlined_answers.specs.Alike.{AreTaken, GiveTheSame, IsMade, SayTheSame}
use Rattle.run_program.specs.Facts.{search_for}
use Rattle.run_program.specs.Happened.{Happened}
use Rattle.run_program.specs.Peers.{AreKnown, IsFirstUnknown}
use Rattle.run_program.specs.Rows.{IsToFind, ReadsAlike}
use Rattle.run_program.specs.TraceCheck.{KeepsRows}

-- two calls that keep the program's rows, with the arguments of this line, by the same spawner and onto the same sinks
pub record AreTwins (h k : Happened) (line : Line) : Type 0 where
  pub keeps : KeepsRows h × KeepsRows k
  pub is : IsLine h.words line × IsLine k.words line
  pub spawner : h.old.run.spawner ≡ k.old.run.spawner
  pub out : h.old.run.out ≡ k.old.run.out
  pub err : h.err ≡ k.err

-- by what it read, each of the two is to find this
abbrev pub BothFind : Happened → Happened → Line → Loaded → Type 0
BothFind h k line loaded = IsToFind h line (Found loaded) × IsToFind k line (Found loaded)

-- the same status, the same bytes, and the same line
pub record AnswerAlike (h k : Happened) : Type 0 where
  pub status : h.status ≡ k.status
  pub out : h.new.run.out ≡ k.new.run.out
  pub err : h.err_after ≡ k.err_after

-- ---- what is found

-- the files of the first call say what is loaded by an outline, and those of the second by one that says the same but for the numbers of elements
pub record AreOfDocuments (h k : Happened) (line : Line) (loaded : Loaded) : Type 0 where
  pub nested : Outline
  pub inlined : Outline
  pub shapes : List Shape
  pub given : List GivenBinding
  pub other : List GivenBinding
  pub reads : List ReadNote
  pub others : List ReadNote
  pub alike : ReadsAlike h reads × ReadsAlike k others
  pub taken : AreTaken (search_for line) reads nested shapes given
  pub made : IsMade (search_for line) nested shapes given loaded
  pub taken_alone : AreTaken (search_for line) others inlined shapes other
  pub same : SayTheSame nested inlined
  pub give : GiveTheSame given other

abbrev pub AreFoundAlike : Type 0
AreFoundAlike =
    (h k : Happened) (line : Line) (loaded : Loaded) → AreOfDocuments h k line loaded →
    BothFind h k line loaded

-- ---- a run

-- no start failed, no put did, and memory sufficed
pub record IsUnhindered (h : Happened) : Type 0 where
  pub starts : Rose h.old.run.spawner.faults h.new.run.spawner.faults → ⊥
  pub puts : h.status ≢ 10
  pub memory : h.status ≢ 11

-- the peers that were taken back tell these machines, and none of their calls failed
pub record AreMachinesOf (h : Happened) (machines : List Machine) : Type 0 where
  pub peers : List View
  pub retired : h.new.run.spawner.retired ≡ h.old.run.spawner.retired ++ peers
  pub tell : map (λ (v : View). v.fixed.machine) peers ≡ map (λ (m : Machine). Some m) machines
  pub answer : All (λ (v : View). v.faults ≡ 0) peers

-- the run of these machines
abbrev pub run_of : RunLine → Loaded → List Machine → Run
run_of asked loaded machines = record {
  system = loaded.system;
  bound = loaded.bound;
  machines = machines;
  plan = asked.plan;
}

abbrev pub RunAlike : Type 0
RunAlike =
    (h k : Happened) (line : Line) (asked : RunLine) (loaded : Loaded) (machines : List Machine) →
    AreTwins h k line → BothFind h k line loaded → run_in line ≡ Some asked →
    AreKnown asked.host h.old.run.spawner loaded.system.components →
    IsUnhindered h → IsUnhindered k → AreMachinesOf h machines → AreMachinesOf k machines →
    WellBehaved (run_of asked loaded machines) → AnswerAlike h k

-- ---- no run

-- the status and the line of the first component whose model identifier isn't known
abbrev pub ToldUnknown : Type 0
ToldUnknown =
    (h k : Happened) (line : Line) (asked : RunLine) (loaded : Loaded) (place : ℕ)
    (c : Component) → AreTwins h k line → BothFind h k line loaded → run_in line ≡ Some asked →
    IsFirstUnknown asked.host h.old.run.spawner loaded.system.components place c →
    IsUnhindered h → IsUnhindered k → (h.status ≡ k.status) × (h.err_after ≡ k.err_after)

-- the size of the system
abbrev pub TellAlike : Type 0
TellAlike =
    (h k : Happened) (line : Line) (loaded : Loaded) → AreTwins h k line →
    BothFind h k line loaded → run_in line ≡ None → IsUnhindered h → IsUnhindered k →
    AnswerAlike h k
