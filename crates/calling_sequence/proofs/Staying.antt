-- What the calls of an agreed step leave of an instance, whatever is answered.
use Rattle.std.proofs.Common.{◌≡◌, ℕ, ◌+◌, ◌<◌, Bool, true, false, List, [], ◌∷◌, ◌++◌, inl, inr, Option, Some, None, refl, sym, ◌∙◌, subst, arith, length, get_or}
use Rattle.std.specs.Prelude.{All, if◌then◌else◌}
use Rattle.std.specs.Result.{result_ok}
use Rattle.std.proofs.lemmas.List.{length-map, get_or_default}
use Rattle.std.proofs.lemmas.List.Elements.{All-append, All-cons, All-head, All-nil, All-tail}
use Rattle.value_types.specs.declared.shape.Shape.{Shape}
use Rattle.fmi_calls.specs.declared.call.Call.{Call}
use Rattle.fmi_calls.specs.declared.call.Call.TheVariants as C
use Rattle.fmi_calls.specs.declared.call.Reply.{Reply}
use Rattle.fmi_calls.specs.declared.call.Grade.{Grade}
use Rattle.fmi_calls.specs.declared.call.Grade.TheVariants as G
use Rattle.fmi_calls.specs.declared.phase.Phase.{Phase}
use Rattle.fmi_calls.specs.Next.{counted, entered, graded, next_of}
use Rattle.fmi_calls.specs.Worth.{grade_of}
use Rattle.fmu_peer.specs.declared.peer.Exchange.{Exchange}
use Rattle.fmu_peer.specs.View.{View}
use Rattle.slot_calls.specs.Log.{ComponentCall, Sent, Talks, component_call, component_calls}
use Rattle.slot_calls.specs.Stage.{to_those, to_those_from}
use Rattle.slot_calls.specs.declared.bad_answer.BadAnswer.{BadAnswer}
use Rattle.slot_calls.proofs.CallerLemmas.{map_at}
use Rattle.step_agreement.specs.Agreement.{Agrees, Meets, Stand, shapes_in}
use Rattle.step_agreement.proofs.CallerLemmas.{IsAlong, IsOfRound, along_agreement}

-- ---- one instance

-- the call saves a state, goes back to it or frees it, or is a step
abbrev pub IsOfStep : Call → Type 0
IsOfStep C.Save = Unit {0}
IsOfStep C.Restore = Unit {0}
IsOfStep C.Free = Unit {0}
IsOfStep (C.DoStep at size) = Unit {0}
IsOfStep call = ⊥

-- the stop stays, and for how many variables it is kept whether they are active Clocks
pub record Stays (old new : Phase) : Type 0 where
  pub stop_is : new.stop ≡ old.stop
  pub active : length new.active ≡ length old.active

entered_stays : (shape : Shape) (p : Phase) (call : Call) (reply : Reply) → IsOfStep call → Stays p (entered shape p call reply)
entered_stays shape p C.Save reply is = record { stop_is = refl; active = refl }
entered_stays shape p C.Restore reply is = record { stop_is = refl; active = refl }
entered_stays shape p C.Free reply is = record { stop_is = refl; active = refl }
entered_stays shape p (C.DoStep at size) reply is = record { stop_is = refl; active = refl }
entered_stays shape p call reply is = absurd is

next_stays : (shape : Shape) (p : Phase) (call : Call) (r : Option Reply) → IsOfStep call → Stays p (next_of shape p call r)
next_stays shape p call None is = record { stop_is = refl; active = refl }
next_stays shape p call (Some reply) is = by (grade_of shape call reply) where
  by : (grade : Grade) → Stays p (graded shape (counted p call) call reply grade)
  by G.Good = let s = entered_stays shape (counted p call) call reply is in record { stop_is = s.stop_is; active = s.active }
  by G.Refused = record { stop_is = refl; active = refl }
  by G.Misreply = record { stop_is = refl; active = refl }

pub talks_stay : (v w : View) (es : List Exchange) → Talks v es w → All (λ (e : Exchange). IsOfStep e.call) es → Stays v.phase w.phase
talks_stay v w [] t all = subst (λ (x : View). Stays v.phase x.phase) (sym t) (record { stop_is = refl; active = refl })
talks_stay v w (e ∷ es) (mid, may, asked, rest) all =
    let first : Stays v.phase mid.phase = subst (λ (q : Phase). Stays v.phase q) (sym asked.phase) (next_stays v.fixed.shape v.phase e.call (result_ok e.result) (All-head (λ (x : Exchange). IsOfStep x.call) e es all)) in
    let more = talks_stay mid w es rest (All-tail (λ (x : Exchange). IsOfStep x.call) e es all) in
    record { stop_is = more.stop_is ∙ first.stop_is; active = more.active ∙ first.active }

-- ---- their calls

abbrev pub AreOfStep : List Sent → Type 0
AreOfStep log = All (λ (s : Sent). IsOfStep s.exchange.call) log

one_more : (a : ComponentCall) (rest : List ComponentCall) (b : Bool) → IsOfStep a.call → All (λ (x : ComponentCall). IsOfStep x.call) rest → All (λ (x : ComponentCall). IsOfStep x.call) (if b then a ∷ rest else rest)
one_more a rest true is all = All-cons (λ (x : ComponentCall). IsOfStep x.call) a rest is all
one_more a rest false is all = all

calls_of : {A : Type 0} (test : A → Bool) (call : Call) → IsOfStep call → (k : ℕ) (xs : List A) → All (λ (a : ComponentCall). IsOfStep a.call) (to_those_from k test (λ x. call) xs)
calls_of test call is k [] = All-nil (λ (a : ComponentCall). IsOfStep a.call)
calls_of test call is k (x ∷ xs) = one_more (record { component = k; call = call }) (to_those_from (k + 1) test (λ y. call) xs) (test x) is (calls_of test call is (k + 1) xs)

by_askings : (log : List Sent) (calls : List ComponentCall) → component_calls log ≡ calls → All (λ (a : ComponentCall). IsOfStep a.call) calls → AreOfStep log
by_askings log calls is all = λ k d w.
    let s = get_or log k d in
    let at : component_call s ≡ get_or (component_calls log) k (component_call s) = map_at component_call log k s (component_call s) w (get_or_default log k d s w) in
    let within : k < length (component_calls log) = let m = length-map log component_call in omega (arith, m, w) in
    subst (λ (a : ComponentCall). IsOfStep a.call) (sym at) (subst (All (λ (a : ComponentCall). IsOfStep a.call)) (sym is) all k (component_call s) within)

pub round_of_step : {A : Type 0} (test : A → Bool) (call : Call) → IsOfStep call → (xs : List A) (log : List Sent) → component_calls log ≡ to_those test (λ x. call) xs → AreOfStep log
round_of_step test call is xs log calls_are = by_askings log (to_those test (λ x. call) xs) calls_are (calls_of test call is 0 xs)

pub joined : (prefix back : List Sent) → AreOfStep prefix → AreOfStep back → AreOfStep (prefix ++ back)
joined prefix back f b = All-append (λ (s : Sent). IsOfStep s.exchange.call) prefix back f b

of_round : (t : ℕ) (call : Call) → IsOfRound t call → IsOfStep call
of_round t call (inl is) = subst IsOfStep (sym is) tt
of_round t call (inr (size, is)) = subst IsOfStep (sym is) tt

along : (t : ℕ) (ss : List Shape) → IsAlong t ss AreOfStep (λ (bad : BadAnswer). AreOfStep)
along t ss = record {
  none = All-nil (λ (s : Sent). IsOfStep s.exchange.call);
  joined = joined;
  after = λ bad. joined;
  well = λ test call stands log is same a. round_of_step test call (of_round t call is) stands log a.calls_are;
  badly = λ test call stands bad log is same f. round_of_step test call (of_round t call is) stands log f.calls_are;
}

pub agreement_of_step : (t step b : ℕ) (first : Shape → Bool) (stands : List Stand) (log : List Sent) (m : ℕ) → Agrees t step first b stands log (Meets m) → AreOfStep log
agreement_of_step t step b first stands log m agrees = along_agreement t step first (shapes_in stands) AreOfStep (λ (bad : BadAnswer). AreOfStep) (along t (shapes_in stands)) b stands log (Meets m) refl agrees
