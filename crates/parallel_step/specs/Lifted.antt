-- A round as a log: what each instance had of it, and its first answer that isn't good (FMI 3.0, 2.2.3: status returned by functions).
use Rattle.std.specs.Prelude.{◌≡◌, ℕ, suc, ◌<◌, List, [], ◌∷◌, length, slice_index_or, MatchOption, Option, Some, None, Result, Ok, Err}
use Rattle.value_types.specs.declared.shape.Shape.{Shape}
use Rattle.fmi_calls.specs.declared.call.Call.{Call}
use Rattle.fmu_peer.specs.declared.ended.Why.{Why}
use Rattle.fmu_peer.specs.declared.peer.Exchange.{Exchange}
use Rattle.fmu_peer.specs.declared.slot.Slot.{Slot}
use Rattle.fmu_peer.specs.View.{View}
use Rattle.slot_calls.specs.Log.{ComponentCall, Sent, Told, part}
use Rattle.slot_calls.specs.Slots.{instances}
use Rattle.slot_calls.specs.Stage.{FailsIn, IsAnswered, shapes}
use Rattle.slot_calls.specs.declared.bad_answer.BadAnswer.{BadAnswer}
use Rattle.parallel_step.specs.Round.{WasSent, call_in}

-- ---- the calls of the jobs

abbrev pub ask_of : ℕ → Option Call → List ComponentCall → List ComponentCall
ask_of i (Some call) rest = record { component = i; call = call } ∷ rest
ask_of i None rest = rest

-- from the i-th slot on, the call of each job
abbrev pub jobs_from : {L : Type 0} {g : _} → ℕ → List (Slot L g) → List ComponentCall
jobs_from i [] = []
jobs_from i (s ∷ ss) = ask_of i (call_in s.job) (jobs_from (suc i) ss)

abbrev pub jobs : {L : Type 0} {g : _} → List (Slot L g) → List ComponentCall
jobs slots = jobs_from 0 slots

-- ---- the first answer that isn't good

abbrev pub bad_of : {T : Type 0} → Option Call → Option (Result T Why) → Option Why
bad_of (Some call) (Some (Err why)) = Some why
bad_of (Some call) (Some (Ok x)) = None
bad_of (Some call) None = None
bad_of None answer = None

abbrev pub bad_or : ℕ → Option Why → Option BadAnswer → Option BadAnswer
bad_or i (Some why) rest = Some (record { component = record { 0 = i }; why = why })
bad_or i None rest = rest

-- from the i-th slot on, the first bad answer to a job
abbrev pub bad_from : {L : Type 0} {g : _} → ℕ → List (Slot L g) → Option BadAnswer
bad_from i [] = None
bad_from i (s ∷ ss) = bad_or i (bad_of (call_in s.job) s.answer) (bad_from (suc i) ss)

-- ---- the round

-- what calls that are all sent give: each answer is good, or this is the first that isn't
abbrev pub AllSent : List Shape → List ComponentCall → List Sent → Option BadAnswer → Type 0
AllSent shapes calls log None = IsAnswered shapes calls log
AllSent shapes calls log (Some bad) = FailsIn shapes calls bad log

-- what the FMU of a slot had: the exchange of its job, or nothing
abbrev pub IsOwn : {L : Type 0} {g : _} → (L → View) → Slot L g → List Exchange → Slot L g → Type 0
IsOwn view old es new =
    MatchOption (call_in old.job) ((new ≡ old) × (es ≡ []))
    (λ call. (w : WasSent view old new call) × (es ≡ w.did.one.exchange ∷ []))

-- a round over slots is one over a log: each instance had the call of its job alone, all were sent whatever was answered, and the first bad answer is that of the least component
pub record Lifted {L : Type 0} {g : _} (view : L → View)
    (olds news : List (Slot L g)) : Type 0 where
  pub log : List Sent
  pub told : Told log (instances view olds) (instances view news)
  pub says : AllSent (shapes (instances view olds)) (jobs olds) log (bad_from 0 news)
  pub own : (i : ℕ) (d : Slot L g) → i < length olds →
      IsOwn view (slice_index_or olds i d) (part i log) (slice_index_or news i d)
