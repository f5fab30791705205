-- What the instances of a run were asked, and what they answered, in one list (FMI 3.0, 4.2.1).
use Rattle.std.specs.Prelude.{◌≡◌, ℕ, ◌<◌, ◌==◌, ◌||◌, if◌then◌else◌, List, [], ◌∷◌, ◌++◌, length, map, slice_index_or, Result, Ok, Err}
use Rattle.value_types.specs.declared.shape.Shape.{Shape}
use Rattle.fmi_calls.specs.declared.call.Call.{Call}
use Rattle.fmi_calls.specs.declared.call.Reply.{Reply}
use Rattle.fmu_peer.specs.declared.peer.Exchange.{Exchange}
use Rattle.fmu_peer.specs.declared.ended.Why.{Why}
use Rattle.fmu_peer.specs.Answer.{IsWhy}
use Rattle.fmu_peer.specs.Close.{any_fatal}
use Rattle.fmu_peer.specs.CloseAll.{Instance}
use Rattle.fmu_peer.specs.Many.{exchanges}
use Rattle.fmu_peer.specs.Talk.{AllGood, IsGood, calls_in}
use Rattle.slot_calls.specs.SavedStates.{saved_after}
pub use Rattle.fmu_peer.specs.Many.{Talks}

-- ---- one instance

-- the instance, which stands among others, was asked these calls, each permitted in its turn, and answered so; it is marked where one of these answers was a refusal with Fatal
pub record Has (old : Instance) (es : List Exchange) (new : Instance) : Type 0 where
  pub talks : Talks old.view es new.view
  pub source : new.source ≡ old.source
  pub saved : new.has_saved ≡ saved_after old.view.fixed.shape old.has_saved es
  pub fatal : new.is_fatal ≡ (old.is_fatal || any_fatal old.view.fixed.shape es)

-- what the answer of one exchange is to the caller: a value that a good one carries, or why it isn't good
abbrev pub Worth : {T : Type 0} → Shape → (Exchange → T) → Exchange → Result T Why → Type 0
Worth shape value e (Ok x) = IsGood shape e × (x ≡ value e)
Worth shape value e (Err why) = IsWhy shape why e

-- the instance was asked this call alone
pub record One {T : Type 0} (call : Call) (value : Exchange → T) (old new : Instance)
    (result : Result T Why) : Type 0 where
  pub exchange : Exchange
  pub is : exchange.call ≡ call
  pub has : Has old (exchange ∷ []) new
  pub worth : Worth old.view.fixed.shape value exchange result

-- the instance was asked these calls, and answered each well
pub record AnswersAll (calls : List Call) (replies : List Reply) (old new : Instance) : Type 0 where
  pub has : Has old (exchanges calls replies) new
  pub good : AllGood old.view.fixed.shape (exchanges calls replies)

-- it was asked these calls up to the first whose answer isn't good, and that is why
pub record StopsAfter (calls : List Call) (why : Why) (old new : Instance) : Type 0 where
  pub prefix : List Exchange
  pub last : Exchange
  pub left : List Call
  pub calls_are : calls ≡ calls_in (prefix ++ last ∷ []) ++ left
  pub good : AllGood old.view.fixed.shape prefix
  pub bad : IsWhy old.view.fixed.shape why last
  pub has : Has old (prefix ++ last ∷ []) new

-- ---- several instances, by the numbers of their components

-- an exchange with one of them
pub record Sent : Type 0 where
  pub component : ℕ
  pub exchange : Exchange

-- a call of one of them
pub record ComponentCall : Type 0 where
  pub component : ℕ
  pub call : Call

abbrev pub component_call : Sent → ComponentCall
component_call s = record { component = s.component; call = s.exchange.call }

abbrev pub component_calls : List Sent → List ComponentCall
component_calls log = map component_call log

-- the exchanges with one of them
abbrev pub part : ℕ → List Sent → List Exchange
part i [] = []
part i (s ∷ log) = if s.component == i then s.exchange ∷ part i log else part i log

-- from the first list to the second each instance had its part of the log, and nothing else
pub record Told (log : List Sent) (olds news : List Instance) : Type 0 where
  pub len : length news ≡ length olds
  pub each : (i : ℕ) (d : Instance) → i < length olds →
      Has (slice_index_or olds i d) (part i log) (slice_index_or news i d)
