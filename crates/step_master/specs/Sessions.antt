-- A system from the first call of its peers to the last, as prepare, run and close leave it (FMI 3.0, 4.2.1).
use Rattle.std.specs.Prelude.{◌≡◌, ℕ, List, ◌++◌, length, map}
use Rattle.sim_base.specs.Sink.{SinkView}
use Rattle.fmu_peer.specs.CloseAll.{Instance}
use Rattle.fmu_peer.specs.View.{View, without_machine}
use Rattle.system_model.specs.declared.bound.Bound.{Bound}
use Rattle.system_model.specs.declared.plan.Plan.{Plan}
use Rattle.system_model.specs.declared.system.System.{System}
use Rattle.system_model.specs.Bounds.{BindsParameters}
use Rattle.system_model.specs.Sound.{IsSound}
use Rattle.system_model.specs.Text.{Instant}
use Rattle.system_checkpoint.specs.declared.snapshot.Snapshot.{Snapshot}
use Rattle.system_checkpoint.specs.Spelling.{CanBeHeld}
use Rattle.trace_text.specs.Holding.{IsHoldable}
use Rattle.slot_calls.specs.declared.bad_answer.BadAnswer.{BadAnswer}
use Rattle.calling_sequence.specs.declared.experiment.Experiment.{Experiment}
use Rattle.calling_sequence.specs.declared.run_end.RunEnd.{RunEnd}
use Rattle.calling_sequence.specs.Calls.{making}
use Rattle.calling_sequence.specs.Ends.{EndsBy}
use Rattle.calling_sequence.specs.Course.{Spot}
use Rattle.calling_sequence.specs.Holding.{Back, HoldsWith, NotBack, PutsPiece, ResumesSlots, spot_in}
use Rattle.calling_sequence.specs.Plans.{CountsBy}
use Rattle.step_master.specs.Holding.{Holds, PreparesRest, Rests}
use Rattle.step_master.specs.Histories.{AreOver, ArePeerHistories, AreUnsaved, EndsHistories, IsLeastBad, PeerHistory}
use Rattle.slot_calls.specs.Log.{Sent, Told}
use Rattle.step_master.specs.Master.{Closes, IsUnmade, Prepares, Runs, Standing}
use Rattle.step_master.specs.FreshInstances.{fresh_instances}
use Rattle.slot_calls.specs.Stage.{IsAnswered, StopsAt, shapes_of}
use Rattle.step_master.specs.System.{ArePeersOf, MachinesMatchShapes}

-- a run: what was run, with which values of the parameters, its peers and its sink before and after, the number of instants that were put, and how it ended
pub record Account : Type 0 where
  pub system : System
  pub bound : Bound
  pub plan : Plan
  pub olds : List View
  pub news : List View
  pub before : SinkView
  pub after : SinkView
  pub instants : ℕ
  pub end : RunEnd

-- each was made, then the run went on by its log, and all were closed; what the peers tell are machines of their shapes
pub record Session (a : Account) : Type 0 where
  pub made : List Sent
  pub log : List Sent
  pub is : List Instant
  pub histories : List PeerHistory
  pub making : IsAnswered (shapes_of a.system) (making a.plan.link a.system) made
  pub are : ArePeerHistories a.system a.olds a.news (made ++ log) histories
  pub text : EndsBy a.system a.bound a.plan log is a.end a.before a.after
  pub counted : a.instants ≡ length is
  pub ends : EndsHistories a.end histories
  pub unsaved : AreUnsaved a.system histories
  pub machines : MachinesMatchShapes a.system a.olds

abbrev pub experiment_in : Account → Experiment
experiment_in a = record { system = a.system; bound = a.bound; plan = a.plan }

-- each was made, then the run went on to where it was to be held, and all were closed: the checkpoint was put, or an end line
pub record HeldSession (a : Account) (at : ℕ) : Type 0 where
  pub made : List Sent
  pub log : List Sent
  pub histories : List PeerHistory
  pub making : IsAnswered (shapes_of a.system) (making a.plan.link a.system) made
  pub are : ArePeerHistories a.system a.olds a.news (made ++ log) histories
  pub starts : List Instance
  pub told : Told made (fresh_instances a.system.components a.olds) starts
  pub outcome : RunEnd
  pub piece : List ℕ
  pub holds : HoldsWith (experiment_in a) at starts outcome log piece
  pub puts : PutsPiece outcome piece a.before a.after a.end
  pub ends : EndsHistories a.end histories
  pub peers : ArePeersOf a.system a.olds
  pub machines : MachinesMatchShapes a.system a.olds

-- the log of a run that is resumed: the way back, and what follows
abbrev pub resumed_log : {e : Experiment} {s : Spot} {states : List (List ℕ)}
    {olds news : List Instance} {before after : SinkView} {counted : ℕ} {end : RunEnd} →
    ResumesSlots e s states olds news before after counted end → List Sent
resumed_log (Back mids log told answered restored runs) = log ++ runs.log
resumed_log (NotBack bad log told stops restored none puts) = log

-- each was made and led back to its state, then the run went on from where it was held, and all were closed; a call that takes bytes in is told between peers whose machines aren't
pub record ResumedSession (a : Account) (held : Snapshot) : Type 0 where
  pub made : List Sent
  pub log : List Sent
  pub histories : List PeerHistory
  pub making : IsAnswered (shapes_of a.system) (making a.plan.link a.system) made
  pub are : ArePeerHistories a.system (map without_machine a.olds) (map without_machine a.news)
      (made ++ log) histories
  pub starts : List Instance
  pub lasts : List Instance
  pub told : Told made (fresh_instances a.system.components a.olds) starts
  pub resumes : ResumesSlots (experiment_in a) (spot_in a.system held) held.states starts lasts
      a.before a.after a.instants a.end
  pub log_is : log ≡ resumed_log resumes
  pub ends : EndsHistories a.end histories
  pub peers : ArePeersOf a.system a.olds
  pub machines : MachinesMatchShapes a.system a.olds

-- the answer to an Instantiate wasn't good, and all were closed
pub record FailedStart (system : System) (link : ℕ) (olds : List View) (bad : BadAnswer)
    (news : List View) : Type 0 where
  pub log : List Sent
  pub histories : List PeerHistory
  pub stops : StopsAt (shapes_of system) (making link system) bad log
  pub are : ArePeerHistories system olds news log histories
  pub least : IsLeastBad bad histories
  pub unsaved : AreUnsaved system histories

-- ---- laws

-- a system that was prepared, run and closed
abbrev pub RunIsSession : Type 0
RunIsSession =
    (a : Account) (ready done : Standing) → IsSound a.system → BindsParameters a.system a.bound →
    CountsBy a.system a.plan → ArePeersOf a.system a.olds →
    Prepares a.system a.bound a.plan a.olds ready → Runs ready done a.before a.after a.end →
    Closes done.instances a.news → a.instants ≡ done.instants → Session a

-- one whose run was to be held
abbrev pub HoldIsSession : Type 0
HoldIsSession =
    (a : Account) (at : ℕ) (ready done : Standing) → IsSound a.system →
    BindsParameters a.system a.bound → CountsBy a.system a.plan → ArePeersOf a.system a.olds →
    IsHoldable a.system a.plan → Prepares a.system a.bound a.plan a.olds ready →
    Holds at ready done a.before a.after a.end → Closes done.instances a.news → HeldSession a at

-- and one whose run was resumed
abbrev pub ResumedIsSession : Type 0
ResumedIsSession =
    (a : Account) (held : Snapshot) (ready done : Standing) → IsSound a.system →
    BindsParameters a.system a.bound → CountsBy a.system a.plan → ArePeersOf a.system a.olds →
    CanBeHeld a.system held → IsHoldable a.system a.plan → ready.bound ≡ a.bound →
    PreparesRest a.system a.plan held a.olds ready →
    Rests held ready done a.before a.after a.end → Closes done.instances a.news →
    a.instants ≡ done.instants → ResumedSession a held

-- a system that couldn't be prepared
abbrev pub FailedStartIsClosed : Type 0
FailedStartIsClosed =
    (system : System) (link : ℕ) (olds news : List View) (bad : BadAnswer) → IsSound system →
    ArePeersOf system olds → IsUnmade system link olds bad news →
    FailedStart system link olds bad news

-- of a system's peers each that isn't spared is over
abbrev pub HistoriesAreOver : Type 0
HistoriesAreOver =
    (system : System) (olds news : List View) (log : List Sent) (histories : List PeerHistory) →
    ArePeerHistories system olds news log histories → AreOver histories
