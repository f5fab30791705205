-- What a run sends in one go, and how it goes (FMI 3.0, 2.2.3: status returned by functions).
use Rattle.std.specs.Prelude.{◌≡◌, ℕ, ◌≤◌, ◌<◌, ℤ, List, [], ◌∷◌, ◌++◌, Option, length}
use Rattle.value_types.specs.declared.shape.Shape.{Shape}
use Rattle.system_model.specs.declared.system.System.{System}
use Rattle.system_model.specs.EarlyReturn.{early_count}
use Rattle.run_model.specs.Stepping.{asked_first}
use Rattle.slot_calls.specs.declared.bad_answer.BadAnswer.{BadAnswer}
use Rattle.slot_calls.specs.Log.{ComponentCall, Sent, part}
use Rattle.slot_calls.specs.Stage.{FailsIn, IsAnswered, IsFirst, StopsAt, shapes_of}
use Rattle.step_agreement.specs.Agreement.{Agrees, Fails, Outcome}
use Rattle.step_agreement.specs.Saving.{IsGoodOutcome}
use Rattle.rollback.specs.StepsBy.{all_at}
use Rattle.event_iteration.specs.Explains.{Explains, ExplainsUntil}
use Rattle.event_iteration.specs.Turns.{Rules}

-- calls up to the first bad answer, calls that are all sent whatever is answered, a walk through ports, from the values before it, or the agreement of all components from t on, with the plan's step and this bound
pub data Part : Type 0 where
  Calls : (calls : List ComponentCall) → Part
  Round : (calls : List ComponentCall) → Part
  Walk : (rules : Rules) (before : List (Option ℤ)) (order : List ℕ) → Part
  Agreement : (t step bound : ℕ) → Part

-- so all components agree from t on: the one is asked first that alone might return early, and else all are
abbrev pub AllAgree : System → (t step bound : ℕ) → List Sent → Outcome → Type 0
AllAgree system t step bound log outcome =
    Agrees t step (asked_first (early_count (shapes_of system))) bound
    (all_at t (shapes_of system)) log outcome

-- by this log the part was done, and each answer is good; these are the values that a walk found. An agreement is done at a point, or before a size that a component doesn't take
abbrev pub Does : System → Part → List (Option ℤ) → List Sent → Type 0
Does system (Calls calls) values log = IsAnswered (shapes_of system) calls log
Does system (Round calls) values log = IsAnswered (shapes_of system) calls log
Does system (Walk rules before order) values log = Explains system rules before order values log
Does system (Agreement t step bound) values log =
    (o : Outcome) × IsGoodOutcome o × AllAgree system t step bound log o

-- by this log the part came to this bad answer
abbrev pub Falls : System → Part → BadAnswer → List Sent → Type 0
Falls system (Calls calls) bad log = StopsAt (shapes_of system) calls bad log
Falls system (Round calls) bad log = FailsIn (shapes_of system) calls bad log
Falls system (Walk rules before order) bad log =
    (values : List (Option ℤ)) × ExplainsUntil system rules before order bad values log
Falls system (Agreement t step bound) bad log = AllAgree system t step bound log (Fails bad)

-- the first bad answer of a log: after it the instances up to that have no exchange
pub record EndsBadly (shapes : List Shape) (bad : BadAnswer) (log : List Sent) : Type 0 where
  pub prefix : List Sent
  pub last : Sent
  pub back : List Sent
  pub log_is : log ≡ prefix ++ last ∷ back
  pub first : IsFirst shapes bad prefix last
  pub within : last.component < length shapes
  pub alone : (j : ℕ) → j ≤ last.component → part j back ≡ []
