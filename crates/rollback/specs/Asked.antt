-- One asking over slots, and a turn of the agreement: what the parts of an agreed step say of each other.
use Rattle.std.specs.Prelude.{◌≡◌, ◌⊎◌, ℕ, ◌++◌, ◌-◌, ◌<◌, ◌≤◌, Bool, true, false, List, length, slice_index_or, is_some, All, Option, Some, None, Result, Ok, Err}
use Rattle.value_types.specs.declared.shape.Shape.{Shape}
use Rattle.fmi_calls.specs.declared.call.Call.TheVariants as C
use Rattle.fmu_peer.specs.declared.ended.Why.{Why}
use Rattle.fmu_peer.specs.declared.peer.Exchange.{Exchange}
use Rattle.fmu_peer.specs.declared.slot.Slot.{Slot}
use Rattle.fmu_peer.specs.View.{View}
use Rattle.slot_calls.specs.Log.{Sent, Told, part}
use Rattle.slot_calls.specs.Slots.{instances}
use Rattle.slot_calls.specs.Stage.{FailsIn, IsAnswered, everyone, shapes}
use Rattle.slot_calls.specs.declared.bad_answer.BadAnswer.{BadAnswer}
use Rattle.step_agreement.specs.Agreement.{Agrees, Asks, Fails, Meets, Outcome, Stand, Stops, Unfit, stand_by, stands_by, to_some, unfit}
use Rattle.step_agreement.specs.OverMachines.{asks_last}
use Rattle.step_agreement.specs.Saving.{is_saved}
use Rattle.rollback.specs.declared.agreeing.Turned.{Turned}
use Rattle.rollback.specs.declared.agreeing.Turned.TheVariants.{Anew, Met}
use Rattle.rollback.specs.declared.asking.Turn.TheVariants as T
use Rattle.rollback.specs.declared.places.Who.{Who}
use Rattle.rollback.specs.declared.places.Who.TheVariants as W
use Rattle.rollback.specs.declared.step_end.StepEnd.{StepEnd}
use Rattle.rollback.specs.declared.step_end.StepEnd.TheVariants.{Bad, FixedStep}
use Rattle.rollback.specs.Places.{StandSo, at_rest, is_sent, passes, stand_in, stands}
use Rattle.rollback.specs.Standing.{Placed, TakesSize}

-- ---- how a step ends that isn't made

abbrev pub outcome_of : StepEnd → Outcome
outcome_of (FixedStep component at end) = Unfit component.0 end
outcome_of (Bad bad) = Fails bad

-- it tells this as the step's beginning
abbrev pub IsFrom : ℕ → StepEnd → Type 0
IsFrom t (FixedStep component at end) = at ≡ t
IsFrom t (Bad bad) = Unit {0}

-- it isn't made, by this answer
abbrev pub IsBadStep : Option BadAnswer → StepEnd → Type 0
IsBadStep answer end = (bad : BadAnswer) × answer ≡ Some bad × end ≡ Bad bad

-- ---- what holds of a slot before an asking

-- one that is selected is selected still once it stands at t again
abbrev pub StaysMeant : ℕ → Who → Type 0
StaysMeant t W.Everyone = Unit {0}
StaysMeant t (W.Saved early) = Unit {0}
StaysMeant t W.Early = Unit {0}
StaysMeant t (W.Elsewhere m) = t < m
StaysMeant t (W.EndElsewhere from bound m) = ⊥

-- one that is selected is tested for the size, or takes it
abbrev pub IsTested : {L : Type 0} {g : _} → (L → View) → (sized asked : Who) →
    (step size : ℕ) → Slot L g → Type 0
IsTested view sized asked step size slot =
    passes asked (stand_in view slot) ≡ true →
    (passes sized (stand_in view slot) ≡ true) ⊎ TakesSize step size (stand_in view slot).shape

-- all that are selected take a step from t to e, or the end names the least that doesn't
abbrev pub SizesSay : {L T : Type 0} {g : _} → (L → View) → (t step : ℕ) → Who → ℕ →
    List (Slot L g) → Result T StepEnd → Type 0
SizesSay view t step who e slots (Ok x) =
    unfit step (e - t) (passes who) (stands view slots) ≡ None
SizesSay view t step who e slots (Err end) =
    (place : ℕ) × unfit step (e - t) (passes who) (stands view slots) ≡ Some place
    × end ≡ FixedStep (record { 0 = place }) t e

-- one that is selected stands at t
abbrev pub IsHome : {L : Type 0} {g : _} → (L → View) → ℕ → Who → Slot L g → Type 0
IsHome view t asked slot =
    passes asked (stand_in view slot) ≡ true → (stand_in view slot).point ≡ t

-- one that is selected takes a step of the size
abbrev pub IsFitting : {L : Type 0} {g : _} → (L → View) → Who → (step size : ℕ) → Slot L g → Type 0
IsFitting view asked step size slot =
    passes asked (stand_in view slot) ≡ true → TakesSize step size (stand_in view slot).shape

-- one that is to go back has a saved state
abbrev pub MayGoBack : {L : Type 0} {g : _} → (L → View) → ℕ → Who → Slot L g → Type 0
MayGoBack view t asked slot =
    is_sent asked (T.Back t) (stand_in view slot) ≡ true → is_some slot.saved ≡ true

-- its state is saved exactly where two or more might return early, of this many that might
abbrev pub IsSavedBy : {L : Type 0} {g : _} → (L → View) → ℕ → Slot L g → Type 0
IsSavedBy view early slot = is_some slot.saved ≡ is_saved early (stand_in view slot).shape

-- and it can be saved then
abbrev pub MayBeSaved : {L : Type 0} {g : _} → (L → View) → ℕ → Slot L g → Type 0
MayBeSaved view early slot =
    is_saved early (stand_in view slot).shape ≡ true →
    (stand_in view slot).shape.can_save_state ≡ true

-- whether the answer in a slot asks for the end
abbrev pub asks_in : Option (Result Bool Why) → Bool
asks_in (Some (Ok asks)) = asks
asks_in (Some (Err why)) = false
asks_in None = false

-- ---- one asking

-- the FMU of a slot had these exchanges: it stands where they led, with the same state saved, and the answer in its slot is that to its last step
pub record Moved {L : Type 0} {g : _} (view : L → View) (t e step : ℕ) (asked : Bool)
    (old : Slot L g) (es : List Exchange) (new : Slot L g) : Type 0 where
  pub placed : Placed view t e step new
  pub saved : is_some new.saved ≡ is_some old.saved
  pub stand : stand_in view new ≡ at_rest (stand_by t (stand_in view old) es)
  pub keeps : (a : Bool) → old.answer ≡ Some (Ok a) → new.answer ≡ Some (Ok (asks_last a es))
  pub tells : asked ≡ true → (a : Bool) → new.answer ≡ Some (Ok (asks_last a es))

-- each of the FMUs of slots did, of which those were asked that are selected
abbrev pub AllMoved : {L : Type 0} {g : _} → (L → View) → (t e step : ℕ) → Who →
    List (Slot L g) → List Sent → List (Slot L g) → Type 0
AllMoved {L = L} {g = g} view t e step asked olds log news =
    (i : ℕ) (d : Slot L g) → i < length olds →
    Moved view t e step (passes asked (stand_in view (slice_index_or olds i d)))
    (slice_index_or olds i d) (part i log) (slice_index_or news i d)

-- a round of those that go back, and one of steps
pub record Rounds (shapes : List Shape) (ss : List Stand) (t e : ℕ) (asked : Who)
    (log : List Sent) : Type 0 where
  pub backs : List Sent
  pub steps : List Sent
  pub back : IsAnswered shapes (to_some (is_sent asked (T.Back t)) C.Restore ss) backs
  pub stepped : IsAnswered shapes (to_some (passes asked) (C.DoStep t (e - t)) ss) steps
  pub log_is : log ≡ backs ++ steps

-- one of the answers is bad
pub data RoundsFail (shapes : List Shape) (ss : List Stand) (t e : ℕ) (asked : Who)
    (bad : BadAnswer) (log : List Sent) : Type 0 where
  InBacks : FailsIn shapes (to_some (is_sent asked (T.Back t)) C.Restore ss) bad log →
      RoundsFail shapes ss t e asked bad log
  InSteps : (backs steps : List Sent) →
      IsAnswered shapes (to_some (is_sent asked (T.Back t)) C.Restore ss) backs →
      FailsIn shapes (to_some (passes asked) (C.DoStep t (e - t)) ss) bad steps →
      log ≡ backs ++ steps → RoundsFail shapes ss t e asked bad log

abbrev pub RoundsSay : {L T : Type 0} {g : _} → (L → View) → (t step : ℕ) → Who → ℕ →
    (olds news : List (Slot L g)) → List Sent → Result T BadAnswer → Type 0
RoundsSay view t step asked e olds news log (Ok x) =
    Rounds (shapes (instances view olds)) (stands view olds) t e asked log ×
    AllMoved view t e step asked olds log news
RoundsSay view t step asked e olds news log (Err bad) =
    RoundsFail (shapes (instances view olds)) (stands view olds) t e asked bad log

pub record RoundsOver {L T : Type 0} {g : _} (view : L → View) (t step : ℕ) (asked : Who)
    (e : ℕ) (olds news : List (Slot L g)) (result : Result T BadAnswer) : Type 0 where
  pub log : List Sent
  pub told : Told log (instances view olds) (instances view news)
  pub says : RoundsSay view t step asked e olds news log result

abbrev pub AskedSays : {L T : Type 0} {g : _} → (L → View) → (t step : ℕ) →
    (sized asked : Who) → ℕ → (olds news : List (Slot L g)) → List Sent → Result T StepEnd → Type 0
AskedSays view t step sized asked e olds news log (Ok x) =
    ((ss : List Stand) → StandSo view ss olds →
    Asks t step (passes sized) (passes asked) e ss log)
    × AllMoved view t e step asked olds log news
AskedSays view t step sized asked e olds news log (Err end) =
    IsFrom t end × ((ss : List Stand) → StandSo view ss olds →
    Stops t step (passes sized) (passes asked) e ss log (outcome_of end))

-- those that are selected were asked to step from t to e, or not all could be
pub record AskedOver {L T : Type 0} {g : _} (view : L → View) (t step : ℕ)
    (sized asked : Who) (e : ℕ) (olds news : List (Slot L g))
    (result : Result T StepEnd) : Type 0 where
  pub log : List Sent
  pub told : Told log (instances view olds) (instances view news)
  pub says : AskedSays view t step sized asked e olds news log result

-- ---- a turn of the agreement, and all of it

-- the rest of an agreement, from the bound c on, leads the whole on
abbrev pub GoesOn : {L : Type 0} {g : _} → (L → View) → (t step b c : ℕ) → List (Slot L g) →
    List Sent → Type 0
GoesOn view t step b c olds log =
    (ss : List Stand) (rest : List Sent) (outcome : Outcome) → StandSo view ss olds →
    Agrees t step everyone c (stands_by t ss log) rest outcome →
    Agrees t step everyone b ss (log ++ rest) outcome

-- the agreement comes to this, where these come first
abbrev pub ComesTo : {L : Type 0} {g : _} → (L → View) → (Shape → Bool) → (t step b : ℕ) →
    List (Slot L g) → List Sent → Outcome → Type 0
ComesTo view first t step b olds log outcome =
    (ss : List Stand) → StandSo view ss olds → Agrees t step first b ss log outcome

abbrev pub IsAt : {L : Type 0} {g : _} → (L → View) → ℕ → Slot L g → Type 0
IsAt view m slot = (stand_in view slot).point ≡ m

abbrev pub IsKept : {L : Type 0} {g : _} → Slot L g → Type 0
IsKept slot = is_some slot.saved ≡ true

-- it came to a point, where all stand
pub record MeetsAt {L : Type 0} {g : _} (view : L → View) (first : Shape → Bool)
    (t step b : ℕ) (olds : List (Slot L g)) (log : List Sent) (news : List (Slot L g))
    (m : ℕ) : Type 0 where
  pub comes : ComesTo view first t step b olds log (Meets m)
  pub moved : AllMoved view t m step W.Everyone olds log news
  pub there : All (IsAt view m) news
  pub later : t < m
  pub within : m ≤ b

-- all are to begin anew, each with a saved state
pub record GoesAnewFrom {L : Type 0} {g : _} (view : L → View) (t step b : ℕ)
    (olds : List (Slot L g)) (log : List Sent) (news : List (Slot L g)) (c : ℕ) : Type 0 where
  pub goes : GoesOn view t step b c olds log
  pub moved : AllMoved view t c step W.Everyone olds log news
  pub kept : All IsKept news
  pub later : t < c
  pub before : c < b

-- it stops
pub record StopsWith {L : Type 0} {g : _} (view : L → View) (first : Shape → Bool)
    (t step b : ℕ) (olds : List (Slot L g)) (log : List Sent) (end : StepEnd) : Type 0 where
  pub from : IsFrom t end
  pub comes : ComesTo view first t step b olds log (outcome_of end)

abbrev pub TurnSays : {L : Type 0} {g : _} → (L → View) → (t step b : ℕ) →
    (olds news : List (Slot L g)) → List Sent → Result Turned StepEnd → Type 0
TurnSays view t step b olds news log (Ok (Met m)) = MeetsAt view everyone t step b olds log news m
TurnSays view t step b olds news log (Ok (Anew c)) = GoesAnewFrom view t step b olds log news c
TurnSays view t step b olds news log (Err end) = StopsWith view everyone t step b olds log end

-- all were asked, and where they don't meet the others were
pub record TurnOver {L : Type 0} {g : _} (view : L → View) (t step b : ℕ)
    (olds news : List (Slot L g)) (result : Result Turned StepEnd) : Type 0 where
  pub log : List Sent
  pub told : Told log (instances view olds) (instances view news)
  pub says : TurnSays view t step b olds news log result

abbrev pub AgreedSays : {L : Type 0} {g : _} → (L → View) → (Shape → Bool) → (t step b : ℕ) →
    (olds news : List (Slot L g)) → List Sent → Result ℕ StepEnd → Type 0
AgreedSays view first t step b olds news log (Ok m) = MeetsAt view first t step b olds log news m
AgreedSays view first t step b olds news log (Err end) = StopsWith view first t step b olds log end

-- they were asked until they met
pub record AgreedOver {L : Type 0} {g : _} (view : L → View) (first : Shape → Bool)
    (t step b : ℕ) (olds news : List (Slot L g)) (result : Result ℕ StepEnd) : Type 0 where
  pub log : List Sent
  pub told : Told log (instances view olds) (instances view news)
  pub says : AgreedSays view first t step b olds news log result

-- one that might return early
abbrev pub might_return_early : Shape → Bool
might_return_early shape = shape.might_return_early
