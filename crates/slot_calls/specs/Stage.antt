-- Calls to the instances of a run in a fixed order, and the first answer that isn't good (FMI 3.0, 2.2.3: status returned by functions).
use Rattle.std.specs.Prelude.{◌≡◌, ℕ, ◌+◌, Bool, true, if◌then◌else◌, List, [], ◌∷◌, ◌++◌, map, slice_index_or, All, Result, Ok, Err}
use Rattle.value_types.specs.declared.shape.Shape.{Shape}
use Rattle.fmi_calls.specs.declared.call.Call.{Call}
use Rattle.fmu_peer.specs.Answer.{IsWhy}
use Rattle.fmu_peer.specs.CloseAll.{Instance}
use Rattle.fmu_peer.specs.Talk.{IsGood}
use Rattle.system_model.specs.declared.system.Component.{Component}
use Rattle.system_model.specs.declared.system.System.{System}
use Rattle.slot_calls.specs.Log.{Sent, ComponentCall, Told, component_calls}
use Rattle.slot_calls.specs.declared.bad_answer.BadAnswer.{BadAnswer}

abbrev pub shapes : List Instance → List Shape
shapes is = map (λ (i : Instance). i.view.fixed.shape) is

-- the shapes of a system's components
abbrev pub shapes_of : System → List Shape
shapes_of system = map (λ (c : Component). c.shape) system.components

-- ---- answers, by the shapes of the components

-- the answer is good
abbrev pub IsGoodOf : List Shape → Sent → Type 0
IsGoodOf shapes s = (d : Shape) → IsGood (slice_index_or shapes s.component d) s.exchange

-- the last answer isn't good, and those before it are
pub record IsFirst (shapes : List Shape) (bad : BadAnswer) (prefix : List Sent)
    (last : Sent) : Type 0 where
  pub good : All (IsGoodOf shapes) prefix
  pub component : last.component ≡ bad.component.0
  pub why : (d : Shape) → IsWhy (slice_index_or shapes last.component d) bad.why last.exchange

-- the calls were sent, and each answer is good
pub record IsAnswered (shapes : List Shape) (calls : List ComponentCall) (log : List Sent) : Type 0
  where
    pub calls_are : component_calls log ≡ calls
    pub good : All (IsGoodOf shapes) log

-- the calls were sent up to the first whose answer isn't good
pub record StopsAt (shapes : List Shape) (calls : List ComponentCall) (bad : BadAnswer)
    (log : List Sent) : Type 0 where
  pub prefix : List Sent
  pub last : Sent
  pub left : List ComponentCall
  pub log_is : log ≡ prefix ++ last ∷ []
  pub calls_are : calls ≡ component_calls log ++ left
  pub first : IsFirst shapes bad prefix last

-- all of the calls were sent, whatever was answered, and this answer is the first that isn't good
pub record FailsIn (shapes : List Shape) (calls : List ComponentCall) (bad : BadAnswer)
    (log : List Sent) : Type 0 where
  pub prefix : List Sent
  pub last : Sent
  pub back : List Sent
  pub log_is : log ≡ prefix ++ last ∷ back
  pub calls_are : component_calls log ≡ calls
  pub first : IsFirst shapes bad prefix last

-- ---- stages and rounds

-- what calls that stop at the first bad answer give: a value that the log tells, or that answer
abbrev pub StageSays : {T : Type 0} → List Shape → List ComponentCall → (List Sent → T) →
    List Sent →
    Result T BadAnswer → Type 0
StageSays shapes calls value log (Ok x) = IsAnswered shapes calls log × (x ≡ value log)
StageSays shapes calls value log (Err bad) = StopsAt shapes calls bad log

pub record Stage {T : Type 0} (calls : List ComponentCall) (value : List Sent → T)
    (olds news : List Instance) (result : Result T BadAnswer) : Type 0 where
  pub log : List Sent
  pub told : Told log olds news
  pub says : StageSays (shapes olds) calls value log result

-- the same of calls that are all sent
abbrev pub RoundSays : {T : Type 0} → List Shape → List ComponentCall → (List Sent → T) →
    List Sent →
    Result T BadAnswer → Type 0
RoundSays shapes calls value log (Ok x) = IsAnswered shapes calls log × (x ≡ value log)
RoundSays shapes calls value log (Err bad) = FailsIn shapes calls bad log

pub record Round {T : Type 0} (calls : List ComponentCall) (value : List Sent → T)
    (olds news : List Instance) (result : Result T BadAnswer) : Type 0 where
  pub log : List Sent
  pub told : Told log olds news
  pub says : RoundSays (shapes olds) calls value log result

-- a value that is of no use
abbrev pub nothing : List Sent → Unit {0}
nothing log = tt

-- ---- one call to each, or to some

-- from the i-th component on, to those that pass the test, by their shapes or what else is known of them
abbrev pub to_those_from : {A : Type 0} → ℕ → (A → Bool) → (A → Call) → List A → List ComponentCall
to_those_from i test call [] = []
to_those_from i test call (x ∷ xs) =
    if test x then record { component = i; call = call x } ∷ to_those_from (i + 1) test call xs
    else to_those_from (i + 1) test call xs

-- in their order, to those that pass the test, the call that each says
abbrev pub to_those : {A : Type 0} → (A → Bool) → (A → Call) → List A → List ComponentCall
to_those test call xs = to_those_from 0 test call xs

abbrev pub everyone : Shape → Bool
everyone shape = true

-- the FMUs with event mode
abbrev pub has_events : Shape → Bool
has_events shape = shape.has_event_mode

-- in their order, the call that each shape says
abbrev pub to_each : (Shape → Call) → List Shape → List ComponentCall
to_each call ss = to_those everyone call ss
