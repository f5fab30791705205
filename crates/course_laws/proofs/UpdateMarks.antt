-- The Updates among the exchanges of one component, and what stands before them in its stay in Event Mode.
use Rattle.std.proofs.Common.{◌≡◌, Bool, true, false, List, [], ◌∷◌, ◌++◌, Result, Ok, Err, refl, sym, ap, ap₂, ◌∙◌, append_assoc}
use Rattle.std.specs.Prelude.{All, ◌||◌, if◌then◌else◌}
use Rattle.std.specs.List.{list_any}
use Rattle.std.proofs.lemmas.Bool.{or_left, or_right}
use Rattle.std.proofs.lemmas.List.Elements.{All-head, All-tail}
use Rattle.fmi_calls.specs.declared.call.Call.{Call}
use Rattle.fmi_calls.specs.declared.call.Call.TheVariants as C
use Rattle.fmi_calls.specs.declared.call.Content.TheVariants as A
use Rattle.fmi_calls.specs.declared.call.Reply.{Reply}
use Rattle.fmi_calls.specs.declared.call.Reply.TheVariants as R
use Rattle.fmu_peer.specs.declared.peer.Exchange.{Exchange}
use Rattle.fmu_peer.specs.declared.peer.PeerFault.{PeerFault}
use Rattle.fmu_peer.specs.Updates as U
use Rattle.fmu_peer.specs.Updates.{Stay, UpdateMark, marks_of, stay_after_exchange, updates_from}
use Rattle.run_model.specs.AfterInstant as F
use Rattle.event_iteration.specs.Updates.{answer_passes}
use Rattle.fmu_peer.specs.Talk.{calls_in}
use Rattle.course_laws.proofs.ArmedClocks.{is_arming}

-- ---- exchanges one after the other

-- what stands before, after exchanges
abbrev pub stay_after : Stay → List Exchange → Stay
stay_after stay [] = stay
stay_after stay (e ∷ es) = stay_after (stay_after_exchange stay e.call e.result) es

pub stay_append : (stay : Stay) (a b : List Exchange) → stay_after stay (a ++ b) ≡ stay_after (stay_after stay a) b
stay_append stay [] b = refl
stay_append stay (e ∷ a) b = stay_append (stay_after_exchange stay e.call e.result) a b

pub updates_append : (stay : Stay) (a b : List Exchange) → updates_from stay (a ++ b) ≡ updates_from stay a ++ updates_from (stay_after stay a) b
updates_append stay [] b = refl
updates_append stay (e ∷ a) b =
    let marks = marks_of stay e.call e.result in
    let next = stay_after_exchange stay e.call e.result in
    ap (λ (l : List UpdateMark). marks ++ l) (updates_append next a b) ∙ sym (append_assoc marks (updates_from next a) (updates_from (stay_after next a) b))

-- ---- calls that are no Updates

abbrev pub IsNoUpdate : Call → Type 0
IsNoUpdate C.Update = ⊥
IsNoUpdate call = Unit {0}

-- and neither leave Event Mode nor come into it from Initialization Mode
abbrev pub IsQuiet : Call → Type 0
IsQuiet C.EnterStep = ⊥
IsQuiet C.ExitInitialization = ⊥
IsQuiet call = IsNoUpdate call

pub quiet_no : (call : Call) → IsQuiet call → IsNoUpdate call
quiet_no C.Update q = q
quiet_no call q = tt

no_mark : (call : Call) (stay : Stay) (result : Result Reply PeerFault) → IsNoUpdate call → marks_of stay call result ≡ []
no_mark C.Update stay result h = absurd h
no_mark call stay result h = refl

quiet_follows : (call : Call) (stay : Stay) (result : Result Reply PeerFault) → IsQuiet call → (stay_after_exchange stay call result).follows ≡ stay.follows
quiet_follows C.Update stay result h = absurd h
quiet_follows C.EnterStep stay result h = absurd h
quiet_follows C.ExitInitialization stay result h = absurd h
quiet_follows call stay result h = refl

none_follows : (call : Call) (stay : Stay) (result : Result Reply PeerFault) → IsNoUpdate call → stay.follows ≡ false → (stay_after_exchange stay call result).follows ≡ false
none_follows C.Update stay result h none = absurd h
none_follows C.EnterStep stay result h none = refl
none_follows C.ExitInitialization stay result h none = refl
none_follows call stay result h none = none

quiet_arms : (call : Call) (stay : Stay) (result : Result Reply PeerFault) → IsQuiet call → stay.arms ≡ true → (stay_after_exchange stay call result).arms ≡ true
quiet_arms C.Update stay result h armed = absurd h
quiet_arms C.EnterStep stay result h armed = absurd h
quiet_arms C.ExitInitialization stay result h armed = absurd h
quiet_arms (C.GetInterval reference) stay result h armed = or_left stay.arms (U.is_instant_interval result) armed
quiet_arms call stay result h armed = armed

arms_here : (e : Exchange) (call : Call) → e.call ≡ call → (stay : Stay) → is_arming e ≡ true → (stay_after_exchange stay e.call e.result).arms ≡ true
arms_here e (C.GetInterval reference) is stay h =
    ap (λ (c : Call). (stay_after_exchange stay c e.result).arms) is ∙ or_right stay.arms (U.is_instant_interval e.result) (ap (λ (c : Call). is_arming (record e { call = c })) (sym is) ∙ h)
arms_here e call is stay h = absurd (let wrong = ap (λ (c : Call). is_arming (record e { call = c })) (sym is) ∙ h in cc)

pub no_marks : (es : List Exchange) (stay : Stay) → All IsNoUpdate (calls_in es) → updates_from stay es ≡ []
no_marks [] stay all = refl
no_marks (e ∷ es) stay all =
    ap₂ ◌++◌ (no_mark e.call stay e.result (All-head IsNoUpdate e.call (calls_in es) all)) (no_marks es (stay_after_exchange stay e.call e.result) (All-tail IsNoUpdate e.call (calls_in es) all))

-- what each of such calls keeps, they keep together
keep : (Q : Call → Type 0) (P : Stay → Type 0) → ((call : Call) (stay : Stay) (result : Result Reply PeerFault) → Q call → P stay → P (stay_after_exchange stay call result)) → (es : List Exchange) (stay : Stay) → All Q (calls_in es) → P stay → P (stay_after stay es)
keep Q P one [] stay all p = p
keep Q P one (e ∷ es) stay all p = keep Q P one es (stay_after_exchange stay e.call e.result) (All-tail Q e.call (calls_in es) all) (one e.call stay e.result (All-head Q e.call (calls_in es) all) p)

pub quiet_stands : (es : List Exchange) (stay : Stay) → All IsQuiet (calls_in es) → (stay_after stay es).follows ≡ stay.follows
quiet_stands es stay all = keep IsQuiet (λ (s : Stay). s.follows ≡ stay.follows) (λ call s result q p. quiet_follows call s result q ∙ p) es stay all refl

-- without an Update none comes to stand before
pub none_stands : (es : List Exchange) (stay : Stay) → All IsNoUpdate (calls_in es) → stay.follows ≡ false → (stay_after stay es).follows ≡ false
none_stands es stay all none = keep IsNoUpdate (λ (s : Stay). s.follows ≡ false) none_follows es stay all none

-- a Clock that was armed stays so up to an Update
pub arms_after : (es : List Exchange) (stay : Stay) → All IsQuiet (calls_in es) → list_any is_arming es ≡ true → (stay_after stay es).arms ≡ true
arms_after [] stay all h = absurd (cc)
arms_after (e ∷ es) stay all h = by (is_arming e) refl h (arms_after es (stay_after_exchange stay e.call e.result) (All-tail IsQuiet e.call (calls_in es) all)) where
  by : (b : Bool) → is_arming e ≡ b → (b || list_any is_arming es) ≡ true → (list_any is_arming es ≡ true → (stay_after (stay_after_exchange stay e.call e.result) es).arms ≡ true) → (stay_after (stay_after_exchange stay e.call e.result) es).arms ≡ true
  by true here h more = keep IsQuiet (λ (s : Stay). s.arms ≡ true) quiet_arms es (stay_after_exchange stay e.call e.result) (All-tail IsQuiet e.call (calls_in es) all) (arms_here e e.call refl stay here)
  by false there h more = more h

-- ---- one Update

abbrev pub mark_by : Stay → Exchange → UpdateMark
mark_by stay e = record { again = U.asks_again e.result; ends = U.asks_for_end e.result; arms = stay.arms; follows = stay.follows }

-- one at most, where there is event mode
pub data AtMost (has_event_mode : Bool) (es : List Exchange) : Type 0 where
  NoneOf : es ≡ [] → AtMost has_event_mode es
  OneOf : has_event_mode ≡ true → (e : Exchange) → es ≡ e ∷ [] → e.call ≡ C.Update → AtMost has_event_mode es

pub at_most : (b : Bool) (es : List Exchange) (left : List Call) → (if b then C.Update ∷ [] else []) ≡ calls_in es ++ left → AtMost b es
at_most b [] left is = NoneOf refl
at_most true (e ∷ []) left is = OneOf refl e refl (cc)
at_most true (e ∷ (f ∷ es)) left is = absurd (cc)
at_most false (e ∷ es) left is = absurd (cc)

pub one_mark : (stay : Stay) (es : List Exchange) (e : Exchange) → es ≡ e ∷ [] → e.call ≡ C.Update → updates_from stay es ≡ mark_by stay e ∷ []
one_mark stay es e one is = ap (updates_from stay) one ∙ ap (λ (c : Call). marks_of stay c e.result ++ []) is

pub one_stands : (stay : Stay) (es : List Exchange) (e : Exchange) → es ≡ e ∷ [] → e.call ≡ C.Update → (stay_after stay es).follows ≡ true
one_stands stay es e one is = ap (λ (l : List Exchange). (stay_after stay l).follows) one ∙ ap (λ (c : Call). (stay_after_exchange stay c e.result).follows) is

-- one call on the way into Step Mode
pub left_stands : (stay : Stay) (b : Bool) (es : List Exchange) → stay.follows ≡ (if b then true else false) → calls_in es ≡ (if b then C.EnterStep ∷ [] else []) → (stay_after stay es).follows ≡ (if b then false else false)
left_stands stay true [] is calls = absurd (cc)
left_stands stay true (e ∷ []) is calls = ap (λ (c : Call). (stay_after_exchange stay c e.result).follows) (let same : e.call ≡ C.EnterStep = cc in same)
left_stands stay true (e ∷ (f ∷ es)) is calls = absurd (cc)
left_stands stay false [] is calls = is
left_stands stay false (e ∷ es) is calls = absurd (cc)

-- ---- what an answer says

pub again_same : (r : Result Reply PeerFault) → answer_passes F.asks_again r ≡ U.asks_again r
again_same (Ok (R.Done is_warning (A.Update again terminate event_time))) = refl
again_same (Ok (R.Done is_warning content)) = refl
again_same (Ok (R.Refused kind status)) = refl
again_same (Err fault) = refl

pub ends_same : (r : Result Reply PeerFault) → answer_passes F.asks_for_end r ≡ U.asks_for_end r
ends_same (Ok (R.Done is_warning (A.Update again terminate event_time))) = refl
ends_same (Ok (R.Done is_warning content)) = refl
ends_same (Ok (R.Refused kind status)) = refl
ends_same (Err fault) = refl
