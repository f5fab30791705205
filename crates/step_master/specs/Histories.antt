-- The histories of a system's peers, each from before its first call through the run to its closing (FMI 3.0, 4.2.1; 2.2.3: Fatal).
use Rattle.std.specs.Prelude.{◌≡◌, ◌⊎◌, ℕ, ◌≤◌, ◌==◌, Bool, true, false, ◌&&◌, ◌||◌, if◌then◌else◌, List, [], ◌∷◌, ◌++◌, map, take, All, Some, IfSome, Result}
use Rattle.std.specs.List.{list_any, slice_get}
use Rattle.std.specs.Result.{is_err}
use Rattle.sim_base.specs.Causes.{Rose}
use Rattle.value_types.specs.declared.shape.Shape.{Shape}
use Rattle.fmi_calls.specs.KindFacts.{IsClosingCall, IsRunCall}
use Rattle.fmi_calls.specs.Permission.{Permitted}
use Rattle.fmi_calls.specs.declared.call.Call.{Call}
use Rattle.fmi_calls.specs.declared.call.Reply.{Reply}
use Rattle.fmi_calls.specs.declared.phase.Phase.{Phase}
use Rattle.fmi_calls.specs.declared.phase.InstanceState.TheVariants as P
use Rattle.fmu_peer.specs.declared.peer.Exchange.{Exchange}
use Rattle.fmu_peer.specs.declared.peer.PeerFault.{PeerFault}
use Rattle.fmu_peer.specs.Answer.{IsFirstBad, IsLink}
use Rattle.fmu_peer.specs.Close.{any_fatal, closing_calls}
use Rattle.fmu_peer.specs.Lean.{IsLean}
use Rattle.fmu_peer.specs.Machine.{Machine, MachineState}
use Rattle.fmu_peer.specs.Siblings.{Member, Siblings}
use Rattle.fmu_peer.specs.Talk as T
use Rattle.fmu_peer.specs.Updates.{AreUpdatesNeeded}
use Rattle.fmu_peer.specs.View.{View}
use Rattle.system_model.specs.declared.system.Component.{Component}
use Rattle.system_model.specs.declared.system.System.{System}
use Rattle.system_model.specs.EarlyReturn.{early_count}
use Rattle.slot_calls.specs.declared.bad_answer.BadAnswer.{BadAnswer}
use Rattle.fmu_peer.specs.Talk.{calls_in}
use Rattle.calling_sequence.specs.declared.run_end.RunEnd.{RunEnd}
use Rattle.calling_sequence.specs.declared.run_end.RunEnd.TheVariants as E
use Rattle.slot_calls.specs.Replies.{RepliesBy}
use Rattle.slot_calls.specs.Log.{Sent, part}
use Rattle.slot_calls.specs.SavedStates.{IsParted, Talk, saved_after}
use Rattle.slot_calls.specs.Stage.{shapes_of}
use Rattle.course_laws.specs.Laws.{IsStateless}

-- ---- one history

-- the number of the peer's source, what it was before its first call, its exchanges of the run and those of the closing, and what it is at the end
pub record PeerHistory : Type 0 where
  pub source : ℕ
  pub old : View
  pub run : List Exchange
  pub closing : List Exchange
  pub new : View

abbrev pub shape_in : PeerHistory → Shape
shape_in history = history.old.fixed.shape

-- all of its exchanges
abbrev pub talk_in : PeerHistory → List Exchange
talk_in history = history.run ++ history.closing

-- a fault came in place of the reply
abbrev pub is_unanswered : Exchange → Bool
is_unanswered e = is_err e.result

-- a count of faults never falls: it rises where one of the calls is unanswered, and else it stays
pub record Counts (before after : ℕ) (es : List Exchange) : Type 0 where
  pub later : before ≤ after
  pub quiet : list_any is_unanswered es ≡ false → after ≡ before
  pub rose : list_any is_unanswered es ≡ true → Rose before after

-- by the phases these calls come in their order, each once where it is permitted when its turn comes, and nothing else comes
abbrev pub ComeInTurn : Shape → Phase → List Call → List Exchange → Type 0
ComeInTurn shape phase [] sent = sent ≡ []
ComeInTurn shape phase (c ∷ cs) sent =
    (Permitted shape phase c ×
    ((result : Result Reply PeerFault) × (rest : List Exchange) ×
    (sent ≡ record { call = c; result = result } ∷ rest) ×
    ComeInTurn shape (T.next_by shape phase (record { call = c; result = result })) cs rest))
    ⊎ ((Permitted shape phase c → ⊥) × ComeInTurn shape phase cs sent)

-- after its run a peer was sent Free where its state is still saved, Terminate and then FreeInstance, each once where it was permitted, or nothing
abbrev pub ClosesInTurn : PeerHistory → Type 0
ClosesInTurn history =
    (spared : Bool) × ComeInTurn (shape_in history) (T.phase_after (shape_in history) history.run)
    (if spared then [] else closing_calls (saved_after (shape_in history) false history.run))
    history.closing

-- what stays has stayed; the calls of the run are all needed, and those of the closing follow in turn; all of them are legal and lead to the phase, and a told talk has them and no others; a told machine's replies are those to them
pub record IsPeerHistory (history : PeerHistory) : Type 0 where
  pub fixed : history.new.fixed ≡ history.old.fixed
  pub run_calls : All IsRunCall (calls_in history.run)
  pub lean : IsLean (calls_in history.run)
  pub closing_calls : All IsClosingCall (calls_in history.closing)
  pub turn : ClosesInTurn history
  pub legal : T.Legal (shape_in history) (talk_in history)
  pub phase : history.new.phase ≡ T.phase_after (shape_in history) (talk_in history)
  pub talk : IfSome history.new.talk (λ es. es ≡ talk_in history)
  pub counts : Counts history.old.faults history.new.faults (talk_in history)
  pub replies : (m : Machine) (s : MachineState) → history.old.fixed.machine ≡ Some m →
      history.old.state ≡ Some s → RepliesBy m s (talk_in history)

-- how its closing leaves a peer: it was never asked, its instance is gone or lost, or it keeps a state that Free was answered Discard for
pub data IsOver (history : PeerHistory) : Type 0 where
  Unasked : history.new.phase.state ≡ P.Fresh → IsOver history
  Freed : history.new.phase.state ≡ P.Gone → IsOver history
  LostHere : history.new.phase.state ≡ P.Lost → IsOver history
  Keeping : history.new.phase.slot.is_full ≡ true → T.EndsKeeping (talk_in history) → IsOver history

-- ---- the histories of all

-- one of these, of the source, had a call of its run that was refused with Fatal
abbrev pub any_fatal_run : ℕ → List PeerHistory → Bool
any_fatal_run source histories =
    list_any (λ (l : PeerHistory). any_fatal (shape_in l) l.run && l.source == source) histories

-- likewise one of its closing
abbrev pub any_fatal_closing : ℕ → List PeerHistory → Bool
any_fatal_closing source histories =
    list_any (λ (l : PeerHistory). any_fatal (shape_in l) l.closing && l.source == source) histories

-- the peer at this place is spared: one of its source had a Fatal in a run, or one before it in the closing
abbrev pub is_spared : List PeerHistory → ℕ → PeerHistory → Bool
is_spared histories place history =
    any_fatal_run history.source histories || any_fatal_closing history.source
    (take place histories)

abbrev pub member_in : PeerHistory → Member
member_in history =
    record {
      source = history.source;
      shape = shape_in history;
      run = history.run;
      closing = history.closing;
    }

abbrev pub talks_in : List PeerHistory → List Talk
talks_in histories =
    map (λ (l : PeerHistory). record { shape = shape_in l; exchanges = talk_in l }) histories

-- the histories of a system's peers, in the order of the components: each has its part of the log, those after a Fatal of their source have no closing, and each other is closed; no Update follows another at one point that wasn't asked for; which calls are the run's, and which the closing's, the talks of all tell
pub record ArePeerHistories (system : System) (olds news : List View) (log : List Sent)
    (histories : List PeerHistory) : Type 0 where
  pub olds_are : map (λ (l : PeerHistory). l.old) histories ≡ olds
  pub news_are : map (λ (l : PeerHistory). l.new) histories ≡ news
  pub sources_are : map (λ (l : PeerHistory). l.source) histories ≡
      map (λ (c : Component). c.source.0) system.components
  pub runs_are : (k : ℕ) (history : PeerHistory) → slice_get histories k ≡ Some history →
      history.run ≡ part k log
  pub each : All IsPeerHistory histories
  pub siblings : Siblings (map member_in histories)
  pub updates : AreUpdatesNeeded (map (λ (l : PeerHistory). l.run) histories)
  pub parted : All (λ (l : PeerHistory). IsParted (talks_in histories) (shape_in l) l.run l.closing)
      histories
  pub closed : (k : ℕ) (history : PeerHistory) → slice_get histories k ≡ Some history →
      is_spared histories k history ≡ false → T.Closed (shape_in history) (talk_in history)

-- where at most one FMU might return early, no call saves a state, goes back to one or frees one
abbrev pub AreUnsaved : System → List PeerHistory → Type 0
AreUnsaved system histories =
    early_count (shapes_of system) ≤ 1 →
    All (λ (l : PeerHistory). All IsStateless (calls_in (talk_in l))) histories

-- each of them is over, or spared
abbrev pub AreOver : List PeerHistory → Type 0
AreOver histories =
    (k : ℕ) (history : PeerHistory) → slice_get histories k ≡ Some history →
    is_spared histories k history ≡ false → IsOver history

-- ---- how they end

-- each answer of the runs is good
abbrev pub AreGood : List PeerHistory → Type 0
AreGood histories = All (λ (l : PeerHistory). T.AllGood (shape_in l) l.run) histories

-- the component's run ends with its first answer that isn't good, and those of the components before it have good ones alone
pub record IsLeastBad (bad : BadAnswer) (histories : List PeerHistory) : Type 0 where
  pub history : PeerHistory
  pub here : slice_get histories bad.component.0 ≡ Some history
  pub first : IsFirstBad (shape_in history) bad.why history.run
  pub before : AreGood (take bad.component.0 histories)
  pub rose : IsLink bad.why → Rose history.old.faults history.new.faults

-- the answers of the runs by the end
abbrev pub EndsHistories : RunEnd → List PeerHistory → Type 0
EndsHistories E.Stop histories = AreGood histories
EndsHistories (E.Asked point) histories = AreGood histories
EndsHistories (E.EventLimit point) histories = AreGood histories
EndsHistories (E.FixedStep component at end) histories = AreGood histories
EndsHistories (E.Range lost at) histories = AreGood histories
EndsHistories (E.Held at) histories = AreGood histories
EndsHistories (E.Bad bad) histories = IsLeastBad bad histories
EndsHistories E.WriteFault histories = AreGood histories ⊎
    ((bad : BadAnswer) × IsLeastBad bad histories)
