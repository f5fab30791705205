-- Which saved state is held, and whose a Free is: the run's or the closing's (FMI 3.0, 2.2.6: FMU state).
use Rattle.std.specs.Prelude.{◌≡◌, ◌⊎◌, ℕ, Bool, true, false, if◌then◌else◌, List, [], ◌∷◌, ◌++◌, All, Option, Some, None, IfSome, Result, Ok, Err}
use Rattle.value_types.specs.declared.shape.Shape.{Shape}
use Rattle.fmi_calls.specs.declared.call.Call.{Call}
use Rattle.fmi_calls.specs.declared.call.Call.TheVariants as C
use Rattle.fmi_calls.specs.declared.call.Content.TheVariants as A
use Rattle.fmi_calls.specs.declared.call.Grade.{Grade}
use Rattle.fmi_calls.specs.declared.call.Grade.TheVariants.{Good, Refused, Misreply}
use Rattle.fmi_calls.specs.declared.call.Kind.TheVariants as K
use Rattle.fmi_calls.specs.declared.call.BadStatus.TheVariants.{Discard}
use Rattle.fmi_calls.specs.declared.call.Reply.{Reply}
use Rattle.fmi_calls.specs.declared.call.Reply.TheVariants as R
use Rattle.fmi_calls.specs.Worth.{grade_of}
use Rattle.fmu_peer.specs.declared.peer.Exchange.{Exchange}
use Rattle.fmu_peer.specs.declared.peer.PeerFault.{PeerFault}
use Rattle.fmu_peer.specs.Talk.{IsGood}

-- ---- which is held

abbrev pub if_good : Grade → Bool → Bool
if_good Good saved = true
if_good Refused saved = saved
if_good Misreply saved = saved

-- whether a state is held after a call: a good Save gives one, and so does a good Deserialize; a Free spends it, whatever is answered
abbrev pub saved_by : Shape → Call → Result Reply PeerFault → Bool → Bool
saved_by shape C.Save (Ok reply) saved = if_good (grade_of shape C.Save reply) saved
saved_by shape (C.Deserialize length point stop) (Ok reply) saved =
    if_good (grade_of shape (C.Deserialize length point stop) reply) saved
saved_by shape C.Free result saved = false
saved_by shape call result saved = saved

-- after these exchanges
abbrev pub saved_after : Shape → Bool → List Exchange → Bool
saved_after shape saved [] = saved
saved_after shape saved (e ∷ es) = saved_after shape (saved_by shape e.call e.result saved) es

-- ---- whose a Free is, by the talks of all

-- all exchanges with an instance of this shape
pub record Talk : Type 0 where
  pub shape : Shape
  pub exchanges : List Exchange

-- the last DoStep of a talk, or the one before it
abbrev pub step_or : Exchange → Call → Option Exchange → Option Exchange
step_or e (C.DoStep at size) before = Some e
step_or e call before = before

abbrev pub last_step : Option Exchange → List Exchange → Option Exchange
last_step before [] = before
last_step before (e ∷ es) = last_step (step_or e e.call before) es

-- the answer says that the step ended there
abbrev pub EndsAt : ℕ → Result Reply PeerFault → Type 0
EndsAt m (Ok (R.Done is_warning (A.DoStep event_needed terminate early end))) = end ≡ m
EndsAt m result = ⊥

-- the last DoSteps of all talks were good, and ended at one point
abbrev pub AgreeAtLast : List Talk → Type 0
AgreeAtLast talks =
    (m : ℕ) × All (λ (t : Talk). IfSome (last_step None t.exchanges)
    (λ e. IsGood t.shape e × EndsAt m e.result)) talks

-- the talk has a DoStep after its last Save or Deserialize
abbrev pub steps : Call → Bool → Bool
steps (C.DoStep at size) stepped = true
steps C.Save stepped = false
steps (C.Deserialize length point stop) stepped = false
steps call stepped = stepped

abbrev pub has_stepped : Bool → List Exchange → Bool
has_stepped stepped [] = stepped
has_stepped stepped (e ∷ es) = has_stepped (steps e.call stepped) es

-- and the state that is saved has served: it was serialized, or gone back to before any DoStep, well
abbrev pub is_good : Shape → Call → Result Reply PeerFault → Bool
is_good shape call (Ok reply) = if_good (grade_of shape call reply) false
is_good shape call (Err fault) = false

abbrev pub serves : Shape → Call → Result Reply PeerFault → (stepped served : Bool) → Bool
serves shape C.Save result stepped served = false
serves shape (C.Deserialize length point stop) result stepped served = false
serves shape C.Serialize result stepped served = is_good shape C.Serialize result
serves shape C.Restore result stepped served =
    if stepped then served else is_good shape C.Restore result
serves shape call result stepped served = served

abbrev pub has_served : Shape → (stepped served : Bool) → List Exchange → Bool
has_served shape stepped served [] = served
has_served shape stepped served (e ∷ es) =
    has_served shape (steps e.call stepped) (serves shape e.call e.result stepped served) es

-- the calls that end an instance
abbrev pub IsEnding : Call → Type 0
IsEnding C.Terminate = Unit {0}
IsEnding C.FreeInstance = Unit {0}
IsEnding call = ⊥

-- among these talks a call is one of the closing: one that ends its instance, or a Free before such ones alone, where the saved state hasn't served, and the last DoSteps of all weren't good with one end or its own talk has no DoStep after its last Save. It comes after the first part of its talk, with an instance of this shape, and before the rest. All other calls are the run's
abbrev pub IsOfClosing : List Talk → Shape → List Exchange → Call → List Exchange → Type 0
IsOfClosing talks shape prefix C.Free rest =
    All (λ (e : Exchange). IsEnding e.call) rest × (has_served shape false false prefix ≡ false) ×
    ((AgreeAtLast talks → ⊥) ⊎ (has_stepped false prefix ≡ false))
IsOfClosing talks shape prefix call rest = IsEnding call

-- ---- whose a Free is, by its place

-- each call of the first part of a talk is the run's by the talks of all, and each of the second the closing's
pub record IsParted (talks : List Talk) (shape : Shape) (run closing : List Exchange) : Type 0 where
  pub of_run : (prefix rest : List Exchange) (e : Exchange) → run ≡ prefix ++ e ∷ rest →
      IsOfClosing talks shape prefix e.call (rest ++ closing) → ⊥
  pub of_closing : (prefix rest : List Exchange) (e : Exchange) → closing ≡ prefix ++ e ∷ rest →
      IsOfClosing talks shape (run ++ prefix) e.call rest

-- the answer to a Free keeps the state: the talk ends with it
pub record IsGivenUp (e : Exchange) : Type 0 where
  pub frees : e.call ≡ C.Free
  pub discarded : e.result ≡ Ok (R.Refused K.Free Discard)

-- how the run's part of a talk, among those of all, leaves the state that was saved: it is still held only where it hasn't served and the steps of all haven't come to one point, and a run that ends with a Free has come there, or the state has served; nothing follows a Free that was answered by Discard
pub record LeavesState (talks : List Talk) (shape : Shape) (run : List Exchange) : Type 0 where
  pub held : saved_after shape false run ≡ true →
      (has_served shape false false run ≡ false) ×
      ((AgreeAtLast talks → ⊥) ⊎ (has_stepped false run ≡ false))
  pub freed : (prefix : List Exchange) (e : Exchange) → run ≡ prefix ++ e ∷ [] → e.call ≡ C.Free →
      (has_served shape false false prefix ≡ true) ⊎
      (AgreeAtLast talks × (has_stepped false prefix ≡ true))
  pub last : (prefix rest : List Exchange) (e : Exchange) → run ≡ prefix ++ e ∷ rest →
      IsGivenUp e → rest ≡ []
