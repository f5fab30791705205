-- What holds of each run's log, for any replies: how it ends at the first bad answer, and which calls it needs.
use Rattle.std.specs.Prelude.{◌≡◌, ℕ, ◌<◌, ◌≤◌, Bool, true, false, List, All, Option, Some, None, length, map, slice_index_or}
use Rattle.value_types.specs.declared.shape.Shape.{Shape}
use Rattle.fmi_calls.specs.declared.call.Call.{Call}
use Rattle.fmi_calls.specs.declared.call.Call.TheVariants as C
use Rattle.fmi_calls.specs.KindFacts.{IsRunCall}
use Rattle.fmu_peer.specs.declared.peer.Exchange.{Exchange}
use Rattle.fmu_peer.specs.Answer.{IsFirstBad}
use Rattle.fmu_peer.specs.Lean.{IsLean}
use Rattle.fmu_peer.specs.Talk as T
use Rattle.fmu_peer.specs.Updates.{AreUpdatesNeeded}
use Rattle.system_model.specs.declared.system.System.{System}
use Rattle.system_model.specs.EarlyReturn.{early_count}
use Rattle.system_model.specs.Sound.{IsSound}
use Rattle.slot_calls.specs.declared.bad_answer.BadAnswer.{BadAnswer}
use Rattle.slot_calls.specs.Log.{Sent, part}
use Rattle.slot_calls.specs.SavedStates.{LeavesState, Talk, last_step}
use Rattle.slot_calls.specs.Stage.{shapes_of}
use Rattle.course_laws.specs.Runs.{Comes, ComesAnyhow}
use Rattle.fmu_peer.specs.Talk.{calls_in}

-- ---- the first bad answer

-- the component's exchanges end with its first answer that isn't good, and those of the components before it have good ones alone
pub record IsFirstBadOf (shapes : List Shape) (bad : BadAnswer) (log : List Sent) : Type 0 where
  pub within : bad.component.0 < length shapes
  pub first : (d : Shape) → IsFirstBad (slice_index_or shapes bad.component.0 d) bad.why
      (part bad.component.0 log)
  pub before : (j : ℕ) (d : Shape) → j < bad.component.0 →
      T.AllGood (slice_index_or shapes j d) (part j log)

-- each answer is good, or one is the first that isn't
abbrev pub AnswersAre : List Shape → Option BadAnswer → List Sent → Type 0
AnswersAre shapes None log =
    (k : ℕ) (d : Shape) → T.AllGood (slice_index_or shapes k d) (part k log)
AnswersAre shapes (Some bad) log = IsFirstBadOf shapes bad log

abbrev pub FirstBadAnswer : Type 0
FirstBadAnswer =
    (system : System) (bad : Option BadAnswer) (log : List Sent) → IsSound system →
    ComesAnyhow system bad log →
    AnswersAre (shapes_of system) bad log

-- ---- no call twice

-- calls of a run, of which each is needed
pub record AreNeeded (calls : List Call) : Type 0 where
  pub runs : All IsRunCall calls
  pub lean : IsLean calls

abbrev pub NoCallTwice : Type 0
NoCallTwice =
    (system : System) (bad : Option BadAnswer) (log : List Sent) → IsSound system →
    ComesAnyhow system bad log →
    (k : ℕ) → k < length system.components → AreNeeded (calls_in (part k log))

-- ---- saved states

-- these talks are of the components' shapes, and their last steps are those of the log
pub record EndAs (system : System) (log : List Sent) (talks : List Talk) : Type 0 where
  pub shapes : map (λ (t : Talk). t.shape) talks ≡ shapes_of system
  pub steps : (k : ℕ) (d : Talk) → k < length system.components →
      last_step None (slice_index_or talks k d).exchanges ≡ last_step None (part k log)

-- how each component's exchanges of the run leave the state that was saved, whatever talks they end
abbrev pub StatesAreLeft : Type 0
StatesAreLeft =
    (system : System) (bad : Option BadAnswer) (log : List Sent) (talks : List Talk) →
    IsSound system → ComesAnyhow system bad log → EndAs system log talks →
    (k : ℕ) (d : Shape) → k < length system.components →
    LeavesState talks (slice_index_or (shapes_of system) k d) (part k log)

-- ---- no saved states

-- it neither saves a state, nor goes back to one, nor frees one, nor puts one as bytes or takes one in
abbrev pub IsStateless : Call → Type 0
IsStateless C.Save = ⊥
IsStateless C.Restore = ⊥
IsStateless C.Free = ⊥
IsStateless C.Serialize = ⊥
IsStateless (C.Deserialize size point stop) = ⊥
IsStateless call = Unit {0}

-- in a whole run where at most one FMU might return early, each call of each component is so
abbrev pub NothingSaved : Type 0
NothingSaved =
    (system : System) (bad : Option BadAnswer) (log : List Sent) → IsSound system →
    Comes system bad log → early_count (shapes_of system) ≤ 1 →
    (k : ℕ) → All IsStateless (calls_in (part k log))

-- ---- Initialization Mode

-- in a run that is resumed no instance goes through Initialization Mode, and in each other none takes a state in
abbrev pub GoesWith : (resumed : Bool) → Call → Type 0
GoesWith resumed (C.EnterInitialization start stop) = resumed ≡ false
GoesWith resumed (C.Deserialize size point stop) = resumed ≡ true
GoesWith resumed call = Unit {0}

abbrev pub GoesOneWay : Type 0
GoesOneWay =
    (system : System) (bad : Option BadAnswer) (log : List Sent) → IsSound system →
    ComesAnyhow system bad log →
    (resumed : Bool) × ((k : ℕ) → All (GoesWith resumed) (calls_in (part k log)))

-- ---- Updates

-- the exchanges of each of n components
pub record AreTalks (n : ℕ) (log : List Sent) (talks : List (List Exchange)) : Type 0 where
  pub len : length talks ≡ n
  pub each : (k : ℕ) (d : List Exchange) → k < n → slice_index_or talks k d ≡ part k log

abbrev pub UpdatesAskedFor : Type 0
UpdatesAskedFor =
    (system : System) (bad : Option BadAnswer) (log : List Sent)
    (talks : List (List Exchange)) → IsSound system → ComesAnyhow system bad log →
    AreTalks (length system.components) log talks →
    AreUpdatesNeeded talks
