-- A bad answer to a call that a told machine answers well is none of its: the call failed.
use Rattle.std.proofs.Common.{◌≡◌, ℕ, ◌<◌, ◌==◌, Bool, true, List, [], ◌∷◌, ◌++◌, Result, Ok, Some, refl, sym, ap, ap₂, ◌∙◌, subst, append_assoc, arith, length, get_or, ℤ, Option}
use Rattle.std.specs.Prelude.{All, MatchResult}
use Rattle.std.specs.List.{slice_get}
use Rattle.std.specs.Option.{option_map}
use Rattle.std.specs.Result.{is_err}
use Rattle.std.proofs.lemmas.List.{append-nil, length-map}
use Rattle.std.proofs.lemmas.Option.{same_Some, slice_get-map, slice_get_within}
use Rattle.value_types.specs.declared.shape.Shape.{Shape}
use Rattle.fmi_calls.specs.declared.call.Call.{Call}
use Rattle.fmi_calls.specs.declared.call.Grade.TheVariants as G
use Rattle.fmi_calls.specs.declared.call.Reply.{Reply}
use Rattle.fmi_calls.specs.Worth.{grade_of}
use Rattle.fmu_peer.specs.declared.ended.Why.{Why}
use Rattle.fmu_peer.specs.declared.ended.Why.TheVariants.{Refused, Misreply, Link}
use Rattle.fmu_peer.specs.declared.peer.Exchange.{Exchange}
use Rattle.fmu_peer.specs.declared.peer.PeerFault.{PeerFault}
use Rattle.fmu_peer.specs.Answer.{IsLink, IsWhy}
use Rattle.fmu_peer.specs.Machine.{Machine, MachineState, after}
use Rattle.system_model.specs.declared.system.Component.{Component}
use Rattle.run_model.specs.Behaved.{IsAnsweredWell}
use Rattle.run_model.specs.Run.{IsFmu, Run}
use Rattle.slot_calls.specs.declared.bad_answer.BadAnswer.{BadAnswer}
use Rattle.slot_calls.specs.Log.{ComponentCall, Sent, component_calls, part}
use Rattle.slot_calls.specs.Stage.{FailsIn, IsGoodOf, StopsAt, shapes_of, to_those}
use Rattle.slot_calls.proofs.CallerLemmas.{same, takes}
use Rattle.slot_calls.specs.Replies.{AreReplies, RepliesBy, state_by}
use Rattle.step_agreement.proofs.CallerLemmas.{turn}
use Rattle.event_iteration.specs.Explains.{ExplainsUntil}
use Rattle.event_iteration.specs.Turns.{Rules}
use Rattle.event_iteration.proofs.ByLog.{AreAll, fmu_of, fmu_on, got, last_alone_is_bad, replies_then, shape_of_component}
use Rattle.machine_courses.specs.Outcomes.{IsLost}

-- ---- a call that failed

-- after another log
pub lost_after : (n : ℕ) (before log : List Sent) (why : Why) → IsLost n log why → IsLost n (before ++ log) why
lost_after n before log why l = record {
  link = l.link;
  prefix = before ++ l.prefix;
  last = l.last;
  back = l.back;
  is = ap (λ (x : List Sent). before ++ x) l.is ∙ sym (append_assoc before l.prefix (l.last ∷ l.back));
  within = l.within;
  unanswered = l.unanswered;
}

-- a bad answer to a call that is answered well is none of the machine's
only_link : (m : Machine) (shape : Shape) (s : MachineState) (e : Exchange) (es : List Exchange) (why : Why) → RepliesBy m s (e ∷ es) → IsAnsweredWell shape m s e.call → IsWhy shape why e → IsLink why
only_link m shape s e es why h well is = by why is where
  good : (c : Call) (reply : Reply) → e.call ≡ c → e.result ≡ Ok reply → grade_of shape c reply ≡ G.Good
  good c reply at result =
      let here : (reply ≡ m.look s e.call) × RepliesBy m (after m s e.call) es =
      subst (λ (r : Result Reply PeerFault). MatchResult r (λ x. (x ≡ m.look s e.call) × RepliesBy m (after m s e.call) es) (λ fault. Unit {0})) result h in
      ap₂ (grade_of shape) (sym at) here.0 ∙ well

  by : (w : Why) → IsWhy shape w e → IsLink w
  by (Link c fault) is = tt
  by (Refused c status) (reply, at, result, status_is, grade) = absurd (let wrong = sym grade ∙ good c reply at result in cc)
  by (Misreply c reply) (at, result, grade) = absurd (let wrong = sym grade ∙ good c reply at result in cc)

pub link_lost : (shape : Shape) (why : Why) (e : Exchange) → IsLink why → IsWhy shape why e → is_err e.result ≡ true
link_lost shape (Refused call status) e l w = absurd l
link_lost shape (Misreply call reply) e l w = absurd l
link_lost shape (Link call fault) e l w = ap (λ (r : Result _ PeerFault). is_err r) w.1

-- each FMU that is asked this answers it well
abbrev pub AnswerWell : Run → List MachineState → (Shape → Bool) → (Shape → Call) → Type 0
AnswerWell r ss test call = (i : ℕ) (c : Component) (m : Machine) (s : MachineState) → IsFmu r ss i c m s → test c.shape ≡ true → IsAnsweredWell c.shape m s (call c.shape)

module _ (r : Run) (ss : List MachineState) (all : AreAll r ss) where
  module _ (prefix : List Sent) (last : Sent) (back : List Sent) (why : Why) (replies : AreReplies r ss (prefix ++ last ∷ back)) (good : All (IsGoodOf (shapes_of r.system)) prefix)
      (is : (d : Shape) → IsWhy (get_or (shapes_of r.system) last.component d) why last.exchange) where
    -- a bad answer to a call that its FMU answers well in its state there
    pub lost_at : last.component < length r.system.components →
        ((c : Component) (m : Machine) (z : MachineState) → IsFmu r ss last.component c m z → IsAnsweredWell c.shape m (state_by m z (part last.component prefix)) last.exchange.call) → IsLost (length r.system.components) (prefix ++ last ∷ back) why
    lost_at within well =
        let k = last.component in
        let c = got r.system.components k within in
        let x = fmu_of r ss all k c.0 c.1 in
        let there : MachineState = state_by x.0 x.1 (part k prefix) in
        let own : RepliesBy x.0 there (last.exchange ∷ part k back) =
        subst (RepliesBy x.0 there) (takes (k == k) last.exchange (part k back) (same k k refl)) (replies_then r ss prefix (last ∷ back) good replies k c.0 x.0 there (fmu_on r ss (λ j d n z. state_by n z (part j prefix)) k c.0 x.0 x.1 x.2)) in
        let here : IsWhy c.0.shape why last.exchange = subst (λ (h : Shape). IsWhy h why last.exchange) (sym (shape_of_component r.system k c.0 c.1 c.0.shape)) (is c.0.shape) in
        let link = only_link x.0 c.0.shape there last.exchange (part k back) why own (well c.0 x.0 x.1 x.2) here in
        record { link = link; prefix = prefix; last = last; back = back; is = refl; within = within; unanswered = link_lost c.0.shape why last.exchange link here }

    -- in one call to some, that each of them answers well
    pub lost_in_stage : (test : Shape → Bool) (call : Shape → Call) (left : List ComponentCall) → to_those test call (shapes_of r.system) ≡ component_calls (prefix ++ last ∷ back) ++ left → AnswerWell r ss test call →
        IsLost (length r.system.components) (prefix ++ last ∷ back) why
    lost_in_stage test call left calls well =
        let t = turn test call last back left 0 (shapes_of r.system) prefix calls in
        let at = t.to.at in
        let within = slice_get_within (shapes_of r.system) t.to.place t.to.one t.to.is in
        let len = length-map r.system.components (λ (c : Component). c.shape) in
        lost_at (omega (arith, at, within, len))
        (λ c m z fmu.
        let place : t.to.place ≡ last.component = omega (arith, at) in
        let there : slice_get (shapes_of r.system) last.component ≡ Some c.shape = slice_get-map (λ (d : Component). d.shape) r.system.components last.component ∙ ap (option_map (λ (d : Component). d.shape)) fmu.component in
        let own : t.to.one ≡ c.shape = same_Some t.to.one c.shape (sym t.to.is ∙ ap (slice_get (shapes_of r.system)) place ∙ there) in
        subst (λ (y : MachineState). IsAnsweredWell c.shape m y last.exchange.call) (sym (ap (state_by m z) t.none))
        (subst (λ (x : Call). IsAnsweredWell c.shape m z x) (sym (t.to.call_is ∙ ap call own)) (well last.component c m z fmu (ap test (sym own) ∙ t.to.asked))))

-- ---- where calls stop or fail

module _ (r : Run) (ss : List MachineState) (all : AreAll r ss) (bad : BadAnswer) (log : List Sent) (replies : AreReplies r ss log) where
  pub lost_stops : (test : Shape → Bool) (call : Shape → Call) → StopsAt (shapes_of r.system) (to_those test call (shapes_of r.system)) bad log → AnswerWell r ss test call → IsLost (length r.system.components) log bad.why
  lost_stops test call s well =
      subst (λ (l : List Sent). IsLost (length r.system.components) l bad.why) (sym s.log_is)
      (lost_in_stage r ss all s.prefix s.last [] bad.why (subst (AreReplies r ss) s.log_is replies) s.first.good s.first.why test call s.left (s.calls_are ∙ ap (λ (l : List Sent). component_calls l ++ s.left) s.log_is) well)

  pub lost_fails : (test : Shape → Bool) (call : Shape → Call) → FailsIn (shapes_of r.system) (to_those test call (shapes_of r.system)) bad log → AnswerWell r ss test call → IsLost (length r.system.components) log bad.why
  lost_fails test call f well =
      subst (λ (l : List Sent). IsLost (length r.system.components) l bad.why) (sym f.log_is)
      (lost_in_stage r ss all f.prefix f.last f.back bad.why (subst (AreReplies r ss) f.log_is replies) f.first.good f.first.why test call []
      (sym f.calls_are ∙ ap component_calls f.log_is ∙ sym (append-nil (component_calls (f.prefix ++ f.last ∷ f.back)))) well)

  -- in a walk, at a call that its FMU answers well in its state there
  pub lost_walk : (rules : Rules) (before : List (Option ℤ)) (order : List ℕ) (values : List (Option ℤ)) (u : ExplainsUntil r.system rules before order bad values log) →
      ((m : Machine) (z : MachineState) → IsFmu r ss u.stops.port.component.0 u.stops.component m z → IsAnsweredWell u.stops.component.shape m (state_by m z (part u.stops.port.component.0 u.prefix)) u.last.exchange.call) → IsLost (length r.system.components) log bad.why
  lost_walk rules before order values u well =
      let s = u.stops in
      let k = s.port.component.0 in
      let At : ℕ → Type 0 = λ i. (c : Component) (m : Machine) (z : MachineState) → IsFmu r ss i c m z → IsAnsweredWell c.shape m (state_by m z (part i u.prefix)) u.last.exchange.call in
      let at_own : At k = λ c m z fmu.
      let its : s.component ≡ c = same_Some _ _ (sym s.of ∙ fmu.component) in
      subst (λ (d : Component). IsAnsweredWell d.shape m (state_by m z (part k u.prefix)) u.last.exchange.call) its (well m z (record { component = s.of; machine = fmu.machine; state = fmu.state })) in
      subst (λ (l : List Sent). IsLost (length r.system.components) l bad.why) (sym u.log_is)
      (lost_at r ss all u.prefix u.last [] bad.why (subst (AreReplies r ss) u.log_is replies) ((last_alone_is_bad r.system rules before u.taken values u.prefix).good u.told)
      (λ d. subst (λ (h : Shape). IsWhy h bad.why u.last.exchange) (shape_of_component r.system k s.component s.of d ∙ ap (λ (n : ℕ). get_or (shapes_of r.system) n d) (sym s.sent_to)) s.why)
      (let a = s.sent_to in let b = slice_get_within r.system.components k s.component s.of in omega (arith, a, b))
      (subst At (sym s.sent_to) at_own))
