-- The Updates after an instant: the loop over the slots, and over machines where they lead.
use Rattle.std.proofs.Common.{refl, ◌≡◌, ℕ, ◌<◌, ℤ, Bool, true, List, ◌++◌, Option, Some, Result, Ok, Err, sym, ap, ap₂, ◌∙◌, arith, length, get_or, map}
use Rattle.std.specs.Prelude.{◌||◌, if◌then◌else◌}
use Rattle.std.specs.List.{slice_get}
use Rattle.std.specs.Result.{result_ok}
use Rattle.std.proofs.lemmas.List.{length-map}
use Rattle.std.proofs.lemmas.List.Folds.{list_any-append}
use Rattle.std.proofs.lemmas.Option.{same_Some}
use Rattle.std.proofs.Math.Bool.{or-false}
use Rattle.value_types.specs.declared.shape.Shape.{Shape}
use Rattle.fmi_calls.specs.declared.call.Call.TheVariants as C
use Rattle.fmi_calls.specs.declared.call.Reply.{Reply}
use Rattle.fmi_calls.specs.declared.phase.InstanceState.TheVariants as P
use Rattle.fmu_peer.specs.declared.peer.Exchange.{Exchange}
use Rattle.fmu_peer.specs.declared.peer.PeerFault.{PeerFault}
use Rattle.fmu_peer.specs.CloseAll.{Instance}
use Rattle.fmu_peer.specs.View.{View}
use Rattle.system_model.specs.declared.system.Component.{Component}
use Rattle.system_model.specs.declared.system.System.{System}
use Rattle.run_model.specs.AfterInstant.{any_update, asks_again, asks_for_end, next_events, updated, written}
use Rattle.run_model.specs.Run.{Run, Situation}
use Rattle.slot_calls.specs.Log.{Sent, Told}
use Rattle.slot_calls.specs.Replies.{AreReplies, states_by}
use Rattle.slot_calls.specs.Stage.{IsAnswered, has_events, shapes, shapes_of}
use Rattle.slot_calls.proofs.CallerLemmas.{one_log, shape_of, shapes_same}
use Rattle.event_iteration.specs.Instants.{IsRunning}
use Rattle.event_iteration.specs.Updates.{answer_passes, any_answer, events_told, updated_by, updating}
use Rattle.event_iteration.specs.declared.updates.Updated.{Updated}
use Rattle.event_iteration.proofs.Stages.{AreAll, stage_any, stage_events, stage_states}
use Rattle.event_iteration.proofs.Taking.{shape_in_slot, slots_many}

-- ---- a turn of the loop

-- a running instance with event mode is in Event Mode
pub in_event : (v : View) → IsRunning v → has_events v.fixed.shape ≡ true → v.phase.state ≡ P.Event
in_event v running events = running ∙ ap (λ b. if b then P.Event else P.Step) events

-- the test on a slot is that on its component
pub events_in_slot : {A : Type 0} (f : A → Instance) (system : System) (olds news : List A) (log : List Sent) → Told log (map f olds) (map f news) → shapes (map f olds) ≡ shapes_of system → (k : ℕ) (d : A) (c : Component) → k < length olds → slice_get system.components k ≡ Some c →
    has_events (shape_of (f (get_or news k d))) ≡ c.shape.has_event_mode
events_in_slot f system olds news log told alike k d c within of =
    let m = length-map olds f in
    let n = length-map news f in
    let e = told.len in
    ap (λ (s : Shape). s.has_event_mode) (shape_in_slot f system news k d c (shapes_same log (map f olds) (map f news) told ∙ alike) (omega (arith, m, n, e, within)) of)

-- a component for each slot
pub component_within : {A : Type 0} (f : A → Instance) (system : System) (olds : List A) → shapes (map f olds) ≡ shapes_of system → (k : ℕ) → k < length olds → k < length system.components
component_within f system olds alike k within = let m = slots_many f system olds alike in omega (arith, m, within)

-- what an answer says
answer_is : (test : Reply → Bool) (reply : Reply) (x : Result Reply PeerFault) → Some reply ≡ result_ok x → answer_passes test x ≡ test reply
answer_is test reply (Ok y) is = ap test (sym (same_Some _ _ is))
answer_is test reply (Err fault) is = absurd (cc)

any_more : (test : Reply → Bool) (log : List Sent) (k : ℕ) (e : Exchange) (reply : Reply) → Some reply ≡ result_ok e.result → any_answer test (log ++ one_log k e) ≡ (any_answer test log || test reply)
any_more test log k e reply is =
    list_any-append (λ (s : Sent). answer_passes test s.exchange.result) log (one_log k e)
    ∙ ap (λ b. any_answer test log || b) (or-false (answer_passes test e.result) ∙ answer_is test reply e.result is)

-- what is told once one more has answered
pub told_more : (old new : Updated) (log : List Sent) (k : ℕ) (e : Exchange) (reply : Reply) → old ≡ updated_by log → new.again ≡ (old.again || asks_again reply) → new.asked ≡ (old.asked || asks_for_end reply) → Some reply ≡ result_ok e.result →
    new ≡ updated_by (log ++ one_log k e)
told_more old new log k e reply was again asked is =
    ap₂ (λ (a b : Bool). record { again = a; asked = b })
    (again ∙ ap (λ (u : Updated). u.again || asks_again reply) was ∙ sym (any_more asks_again log k e reply is))
    (asked ∙ ap (λ (u : Updated). u.asked || asks_for_end reply) was ∙ sym (any_more asks_for_end log k e reply is))

-- ---- over machines

module _ (r : Run) (s : Situation) (values : List (Option ℤ)) (log : List Sent) (answered : IsAnswered (shapes_of r.system) (updating (shapes_of r.system)) log) where
  -- they lead to the states after the instant
  pub states_updated : states_by r (written r s values) log ≡ (updated r s values).states
  states_updated = stage_states r (written r s values) has_events (λ (shape : Shape). C.Update) log answered

  -- and what is told is what the machines' answers say
  pub any_is : AreAll r (written r s values) → AreReplies r (written r s values) log → (test : Reply → Bool) → any_answer test log ≡ any_update test r s values
  any_is all replies test = stage_any r (written r s values) has_events (λ (shape : Shape). C.Update) log answered replies all (answer_passes test)

  -- and so are the event times
  pub events_are : AreAll r (written r s values) → AreReplies r (written r s values) log → events_told s.t (shapes_of r.system) log ≡ next_events r s values
  events_are all replies = stage_events r (written r s values) has_events (λ (shape : Shape). C.Update) log answered replies all (λ shape. refl) (λ shape. refl) s.t
