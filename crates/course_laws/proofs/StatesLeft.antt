-- How a run leaves the states that were saved: one is still held only where the steps haven't come to one point.
use Rattle.std.proofs.Common.{◌≡◌, ◌≢◌, ◌⊎◌, inl, inr, ℕ, ◌<◌, ◌==◌, Bool, true, false, List, [], ◌∷◌, ◌++◌, Option, Some, None, Result, Ok, Err, refl, sym, ap, ◌∙◌, subst, append-nil, append_assoc, arith, length, get_or, ℤ}
use Rattle.std.specs.Prelude.{All, IfSome, MatchResult, if◌then◌else◌}
use Rattle.std.specs.Option.{option_map}
use Rattle.std.proofs.lemmas.Bool.Decides.{nat_tests}
use Rattle.std.proofs.lemmas.List.{get_or_default, length-map}
use Rattle.std.proofs.lemmas.List.Elements.{All-append, All-cons, All-head, All-nil, All-tail, All-weaker}
use Rattle.std.specs.List.{slice_get}
use Rattle.std.proofs.lemmas.Option.{get_or_from_slice_get, same_Some, slice_get-map, slice_get_within}
use Rattle.value_types.specs.declared.shape.Shape.{Shape}
use Rattle.fmi_calls.specs.declared.call.Call.{Call}
use Rattle.fmi_calls.specs.declared.call.Call.TheVariants as C
use Rattle.fmi_calls.specs.declared.call.Grade.{Grade}
use Rattle.fmi_calls.specs.declared.call.Grade.TheVariants as G
use Rattle.fmi_calls.specs.declared.call.Kind.{Kind}
use Rattle.fmi_calls.specs.declared.call.Kind.TheVariants as K
use Rattle.fmi_calls.specs.declared.call.Reply.{Reply}
use Rattle.fmi_calls.specs.Worth.{grade_of}
use Rattle.fmu_peer.specs.declared.ended.Why.{Why}
use Rattle.fmu_peer.specs.declared.ended.Why.TheVariants.{Refused, Misreply, Link}
use Rattle.fmu_peer.specs.declared.peer.Exchange.{Exchange}
use Rattle.fmu_peer.specs.declared.peer.PeerFault.{PeerFault}
use Rattle.fmu_peer.specs.Answer.{IsWhy}
use Rattle.fmu_peer.specs.Mode.{instantiate_of}
use Rattle.fmu_peer.specs.Talk as T
use Rattle.fmu_peer.specs.Talk.{IsGood, calls_in}
use Rattle.system_model.specs.declared.bound.Bound.{Bound}
use Rattle.system_model.specs.declared.plan.Plan.{Plan}
use Rattle.system_model.specs.declared.system.Component.{Component}
use Rattle.system_model.specs.declared.system.System.{System}
use Rattle.system_model.specs.Bounds.{BindsParameters}
use Rattle.system_model.specs.Sound.{IsSound}
use Rattle.system_model.specs.Text.{Instant}
use Rattle.system_model.specs.EarlyReturn.{early_count}
use Rattle.run_model.specs.Stepping.{asked_first}
use Rattle.slot_calls.specs.declared.bad_answer.BadAnswer.{BadAnswer}
use Rattle.slot_calls.specs.Log.{ComponentCall, Sent, component_calls, part}
use Rattle.slot_calls.specs.SavedStates.{AgreeAtLast, EndsAt, IsGivenUp, LeavesState, Talk, has_served, has_stepped, if_good, is_good, last_step, saved_after, saved_by, serves, step_or, steps}
use Rattle.slot_calls.specs.Stage.{FailsIn, IsAnswered, IsGoodOf, StopsAt, everyone, shapes_of, to_those}
use Rattle.slot_calls.proofs.CallerLemmas.{first_same, last_on, map_at, part_append, rest_same, same, saved_on, served_on, stepped_on, takes}
use Rattle.event_iteration.specs.WalkCalls.{own}
use Rattle.calling_sequence.specs.Calls.{making}
use Rattle.step_agreement.specs.Agreement as A
use Rattle.step_agreement.specs.Agreement.{Fails, Meets, Stand, Unfit, are_at, stand_by, stands_by}
use Rattle.step_agreement.specs.Saving.{is_saved}
use Rattle.step_agreement.proofs.CallerLemmas.{Alternates, AreApart, AreGoodSteps, IsBroken, IsOfRound, all_there, alternates_from, round_calls, there_all}
use Rattle.rollback.specs.StepsBy.{all_at}
use Rattle.calling_sequence.specs.Course.{Agreed, Agreeing, CourseIn, Departing, Extent, LeadsTo, Made, Place, Saved, Saves, Short, Stopping, Whole, first_of, part_at}
use Rattle.calling_sequence.specs.Parts.{Calls, Does, Falls, AllAgree as AgreeBy}
use Rattle.calling_sequence.proofs.CourseInduction.{along}
use Rattle.calling_sequence.proofs.Chains.{part_all}
use Rattle.course_laws.specs.Laws.{EndAs, IsStateless}
use Rattle.course_laws.specs.Runs.{Comes, Falling, IsHalt, Stands, Unmade}
use Rattle.course_laws.proofs.CallsOnce.{IsLater, later_on, some_at}
use Rattle.course_laws.proofs.FirstBad.{agreement_has, part_good}
use Rattle.course_laws.proofs.Goods.{AreInOrder, alone_after, good_part, in_order_from}
use Rattle.course_laws.proofs.LastSteps.{IsGoodRound, IsLast, all_first_by, begins_all, each_after, ends_from, ends_same, none_both, rounds_saved, stand_after, tracks}
use Rattle.course_laws.proofs.OwnCalls.{own_calls, own_there}
use Rattle.course_laws.proofs.RoundCalls.{calls_all}
use Rattle.course_laws.proofs.Sorts.{IsOf, Only, Rounds, Sort, Uses, does_all, falls_all, sort_at, sorts_are, those}
use Rattle.course_laws.proofs.Unsaved.{comes_stateless, never_held}
use Rattle.course_laws.proofs.UpdatesNeeded.{Throughout}

-- ---- other calls leave the state and the steps

abbrev pub IsOther : Call → Type 0
IsOther C.Save = ⊥
IsOther C.Free = ⊥
IsOther (C.DoStep at size) = ⊥
IsOther (C.Deserialize size point stop) = ⊥
IsOther call = Unit {0}

abbrev is_plain : Sort → Bool
is_plain (Only K.Save) = false
is_plain (Only K.Free) = false
is_plain (Only K.DoStep) = false
is_plain (Only K.Deserialize) = false
is_plain Rounds = false
is_plain sort = true

other_of : (sort : Sort) → is_plain sort ≡ true → (c : Call) → IsOf sort c → IsOther c
other_of Uses plain C.Save is = absurd (omega (arith, is))
other_of Uses plain C.Free is = absurd (omega (arith, is))
other_of Uses plain (C.DoStep at size) is = absurd (omega (arith, is))
other_of Uses plain (C.Deserialize size point stop) is = absurd (omega (arith, is))
other_of (Only kind) plain C.Save is = absurd (let wrong : false ≡ true = ap (λ (k : Kind). is_plain (Only k)) is ∙ plain in cc)
other_of (Only kind) plain C.Free is = absurd (let wrong : false ≡ true = ap (λ (k : Kind). is_plain (Only k)) is ∙ plain in cc)
other_of (Only kind) plain (C.DoStep at size) is = absurd (let wrong : false ≡ true = ap (λ (k : Kind). is_plain (Only k)) is ∙ plain in cc)
other_of (Only kind) plain (C.Deserialize size point stop) is = absurd (let wrong : false ≡ true = ap (λ (k : Kind). is_plain (Only k)) is ∙ plain in cc)
other_of Rounds plain c is = absurd (cc)
other_of sort plain c is = tt

other_saved : (shape : Shape) (c : Call) → IsOther c → (r : Result Reply PeerFault) (saved : Bool) → saved_by shape c r saved ≡ saved
other_saved shape C.Save is r saved = absurd is
other_saved shape C.Free is r saved = absurd is
other_saved shape (C.Deserialize size point stop) is r saved = absurd is
other_saved shape c is r saved = refl

others_saved : (shape : Shape) (es : List Exchange) (saved : Bool) → All IsOther (calls_in es) → saved_after shape saved es ≡ saved
others_saved shape [] saved all = refl
others_saved shape (e ∷ es) saved all =
    ap (λ (b : Bool). saved_after shape b es) (other_saved shape e.call (All-head IsOther e.call (calls_in es) all) e.result saved) ∙ others_saved shape es saved (All-tail IsOther e.call (calls_in es) all)

abbrev pub IsNoStep : Call → Type 0
IsNoStep (C.DoStep at size) = ⊥
IsNoStep call = Unit {0}

other_no : (c : Call) → IsOther c → IsNoStep c
other_no (C.DoStep at size) is = absurd is
other_no c is = tt

no_step : (c : Call) → IsNoStep c → (e : Exchange) (o : Option Exchange) → step_or e c o ≡ o
no_step (C.DoStep at size) is e o = absurd is
no_step c is e o = refl

no_steps : (es : List Exchange) (o : Option Exchange) → All IsNoStep (calls_in es) → last_step o es ≡ o
no_steps [] o all = refl
no_steps (e ∷ es) o all = ap (λ (p : Option Exchange). last_step p es) (no_step e.call (All-head IsNoStep e.call (calls_in es) all) e o) ∙ no_steps es o (All-tail IsNoStep e.call (calls_in es) all)

-- ---- one of a list

never : (es : List Exchange) (f : Exchange) (fs : List Exchange) → es ++ f ∷ fs ≡ [] → ⊥
never [] f fs is = absurd (cc)
never (x ∷ es) f fs is = absurd (cc)

-- the last is among those after, if there are any
pub split_last : (es fs prefix : List Exchange) (e : Exchange) → es ++ fs ≡ prefix ++ e ∷ [] → (fs ≡ []) ⊎ ((rest : List Exchange) × (fs ≡ rest ++ e ∷ []))
split_last es [] prefix e is = inl refl
split_last [] (f ∷ fs) prefix e is = inr (prefix, is)
split_last (x ∷ es) (f ∷ fs) [] e is = absurd (never es f fs (rest_same x e (es ++ f ∷ fs) [] is))
split_last (x ∷ es) (f ∷ fs) (y ∷ prefix) e is = split_last es (f ∷ fs) prefix e (rest_same x y (es ++ f ∷ fs) (prefix ++ e ∷ []) is)

-- what holds of each holds of one
pub all_at_one : {X : Type 0} (P : X → Type 0) (prefix rest : List X) (e : X) → All P (prefix ++ e ∷ rest) → P e
all_at_one P [] rest e all = All-head P e rest all
all_at_one P (x ∷ prefix) rest e all = all_at_one P prefix rest e (All-tail P x (prefix ++ e ∷ rest) all)

to_calls : (P : Call → Type 0) (es : List Exchange) → All (λ (e : Exchange). P e.call) es → All P (calls_in es)
to_calls P [] all = All-nil P
to_calls P (e ∷ es) all = All-cons P e.call (calls_in es) (All-head (λ (x : Exchange). P x.call) e es all) (to_calls P es (All-tail (λ (x : Exchange). P x.call) e es all))

pub of_calls : (P : Call → Type 0) (es : List Exchange) → All P (calls_in es) → All (λ (e : Exchange). P e.call) es
of_calls P [] all = All-nil (λ (e : Exchange). P e.call)
of_calls P (e ∷ es) all = All-cons (λ (x : Exchange). P x.call) e es (All-head P e.call (calls_in es) all) (of_calls P es (All-tail P e.call (calls_in es) all))

-- a state isn't given up by a good answer, nor by another call
abbrev IsKept : Exchange → Type 0
IsKept e = IsGivenUp e → ⊥

good_kept : (shape : Shape) (e : Exchange) → IsGood shape e → IsKept e
good_kept shape e good given =
    let of_free = subst (λ (c : Call). MatchResult e.result (λ reply. grade_of shape c reply ≡ G.Good) (λ fault. ⊥)) given.frees good in
    absurd (let wrong : G.Refused ≡ G.Good = subst (λ (r : Result Reply PeerFault). MatchResult r (λ reply. grade_of shape C.Free reply ≡ G.Good) (λ fault. ⊥)) given.discarded of_free in cc)

-- nothing comes after what alone may be given up
pub last_of : (es fs prefix rest : List Exchange) (e : Exchange) → All IsKept es → (fs ≡ []) ⊎ ((f : Exchange) × (fs ≡ f ∷ [])) → es ++ fs ≡ prefix ++ e ∷ rest → IsGivenUp e → rest ≡ []
last_of [] fs prefix rest e kept (inl none) is given = absurd (never prefix e rest (sym is ∙ none))
last_of [] fs [] rest e kept (inr (f, one)) is given = rest_same e f rest [] (sym is ∙ one)
last_of [] fs (x ∷ prefix) rest e kept (inr (f, one)) is given = absurd (never prefix e rest (rest_same x f (prefix ++ e ∷ rest) [] (sym is ∙ one)))
last_of (x ∷ es) fs [] rest e kept short is given = absurd (All-head IsKept x es kept (subst IsGivenUp (sym (first_same x e (es ++ fs) rest is)) given))
last_of (x ∷ es) fs (y ∷ prefix) rest e kept short is given = last_of es fs prefix rest e (All-tail IsKept x es kept) short (rest_same x y (es ++ fs) (prefix ++ e ∷ rest) is) given

pub kept_last : (es prefix rest : List Exchange) (e : Exchange) → All IsKept es → es ≡ prefix ++ e ∷ rest → IsGivenUp e → rest ≡ []
kept_last es prefix rest e kept is given = last_of es [] prefix rest e kept (inl refl) (append-nil es ∙ is) given

other_kept : (es : List Exchange) → All (λ (e : Exchange). e.call ≡ C.Free → ⊥) es → All IsKept es
other_kept es all = λ k d w given. all k d w given.frees

pub why_bad : (shape : Shape) (why : Why) (e : Exchange) → IsWhy shape why e → IsGood shape e → ⊥
why_bad shape (Refused call status) e (reply, is, result, same, grade) good =
    absurd (let wrong : G.Refused ≡ G.Good = sym grade ∙ subst (λ (c : Call). grade_of shape c reply ≡ G.Good) is (subst (λ (r : Result Reply PeerFault). MatchResult r (λ z. grade_of shape e.call z ≡ G.Good) (λ fault. ⊥)) result good) in cc)
why_bad shape (Misreply call reply) e (is, result, grade) good =
    absurd (let wrong : G.Misreply ≡ G.Good = sym grade ∙ subst (λ (c : Call). grade_of shape c reply ≡ G.Good) is (subst (λ (r : Result Reply PeerFault). MatchResult r (λ z. grade_of shape e.call z ≡ G.Good) (λ fault. ⊥)) result good) in cc)
why_bad shape (Link call fault) e (is, result) good = subst (λ (r : Result Reply PeerFault). MatchResult r (λ z. grade_of shape e.call z ≡ G.Good) (λ fault. ⊥)) result good

-- ---- rounds leave whether a state has served: one goes back after a step alone

module _ (s : Shape) (t : ℕ) where
  round_served : (c : Call) (e : Exchange) (cs : List Call) (a b served : Bool) → (a ≡ true → b ≡ true) → Alternates t a (c ∷ cs) →
      (serves s c e.result b served ≡ served) × (a2 : Bool) × (a2 ≡ true → steps c b ≡ true) × Alternates t a2 cs
  round_served (C.DoStep at size) e cs a b served so alt = (refl, true, (λ h. refl), alt.1)
  round_served C.Restore e cs a b served so alt = (ap (λ (x : Bool). if x then served else is_good s C.Restore e.result) (so alt.0), false, (λ wrong. absurd (cc)), alt.1)
  round_served c e cs a b served so alt = absurd alt

  pub rounds_served : (es : List Exchange) (a b served : Bool) → (a ≡ true → b ≡ true) → Alternates t a (calls_in es) → has_served s b served es ≡ served
  rounds_served [] a b served so alt = refl
  rounds_served (e ∷ es) a b served so alt =
      let r = round_served e.call e (calls_in es) a b served so alt in
      ap (λ (x : Bool). has_served s (steps e.call b) x es) r.0 ∙ rounds_served es r.1 (steps e.call b) served r.2 r.3

-- ---- one call, or none

data Sends (b : Bool) (call : Call) : List Exchange → Type 0 where
  One : b ≡ true → (e : Exchange) → e.call ≡ call → Sends b call (e ∷ [])
  NoOne : b ≡ false → Sends b call []

by_calls : (es : List Exchange) (b : Bool) (call : Call) → calls_in es ≡ (if b then call ∷ [] else []) → Sends b call es
by_calls [] true call is = absurd (cc)
by_calls [] false call is = NoOne refl
by_calls (e ∷ []) true call is = One refl e (first_same e.call call [] [] is)
by_calls (e ∷ f ∷ es) true call is = absurd (cc)
by_calls (e ∷ es) false call is = absurd (cc)

module _ (s : Shape) (was : List Exchange) where
  good_saved : (e : Exchange) → e.call ≡ C.Save → IsGood s e → (x : Bool) → saved_by s e.call e.result x ≡ true
  good_saved e call good x = ap (λ (c : Call). saved_by s c e.result x) call ∙ by e.result (subst (λ (c : Call). MatchResult e.result (λ reply. grade_of s c reply ≡ G.Good) (λ fault. ⊥)) call good) where
    by : (r : Result Reply PeerFault) → MatchResult r (λ reply. grade_of s C.Save reply ≡ G.Good) (λ fault. ⊥) → saved_by s C.Save r x ≡ true
    by (Ok reply) g = ap (λ (z : Grade). if_good z x) g
    by (Err fault) g = absurd g

  -- after a Save it is held, and no step was made
  after_save : (b : Bool) (es : List Exchange) → Sends b C.Save es → T.AllGood s es → saved_after s false was ≡ false → saved_after s false (was ++ es) ≡ b
  after_save b _ (One able e call) good none = saved_on s false was (e ∷ []) ∙ good_saved e call (All-head (IsGood s) e [] good) (saved_after s false was) ∙ sym able
  after_save b _ (NoOne unable) good none = ap (saved_after s false) (append-nil was) ∙ none ∙ sym unable

  -- whatever is answered: where it is held, no step was made
  unstepped : (b : Bool) (es : List Exchange) → Sends b C.Save es → saved_after s false was ≡ false → saved_after s false (was ++ es) ≡ true → has_stepped false (was ++ es) ≡ false
  unstepped b _ (One able e call) none held = stepped_on false was (e ∷ []) ∙ ap (λ (c : Call). steps c (has_stepped false was)) call
  unstepped b _ (NoOne unable) none held = absurd (let wrong : true ≡ false = sym held ∙ ap (saved_after s false) (append-nil was) ∙ none in cc)

  -- nor has it served
  unserved : (b : Bool) (es : List Exchange) → Sends b C.Save es → saved_after s false was ≡ false → saved_after s false (was ++ es) ≡ true → has_served s false false (was ++ es) ≡ false
  unserved b _ (One able e call) none held = served_on s false false was (e ∷ []) ∙ ap (λ (c : Call). serves s c e.result (has_stepped false was) (has_served s false false was)) call
  unserved b _ (NoOne unable) none held = absurd (let wrong : true ≡ false = sym held ∙ ap (saved_after s false) (append-nil was) ∙ none in cc)

  -- after a step
  after_step : (at size : ℕ) (es : List Exchange) → Sends true (C.DoStep at size) es →
      (e : Exchange) × (es ≡ e ∷ []) × (last_step None (was ++ es) ≡ Some e) × (has_stepped false (was ++ es) ≡ true) × (saved_after s false (was ++ es) ≡ saved_after s false was)
  after_step at size _ (One able e call) = (
    e,
    refl,
    last_on None was (e ∷ []) ∙ ap (λ (c : Call). step_or e c (last_step None was)) call,
    stepped_on false was (e ∷ []) ∙ ap (λ (c : Call). steps c (has_stepped false was)) call,
    saved_on s false was (e ∷ []) ∙ ap (λ (c : Call). saved_by s c e.result (saved_after s false was)) call,
  )
  after_step at size _ (NoOne unable) = absurd (cc)

  -- after a Free, whatever is answered
  after_free : (b : Bool) (es : List Exchange) → Sends b C.Free es → saved_after s false was ≡ b → (saved_after s false (was ++ es) ≡ false) × (has_stepped false (was ++ es) ≡ has_stepped false was)
  after_free b _ (One able e call) held = (
    saved_on s false was (e ∷ []) ∙ ap (λ (c : Call). saved_by s c e.result (saved_after s false was)) call,
    stepped_on false was (e ∷ []) ∙ ap (λ (c : Call). steps c (has_stepped false was)) call,
  )
  after_free b _ (NoOne unable) held = (ap (saved_after s false) (append-nil was) ∙ held ∙ unable, ap (has_stepped false) (append-nil was))

sends_no : (b : Bool) (call : Call) (es : List Exchange) → IsNoStep call → Sends b call es → All IsNoStep (calls_in es)
sends_no b call _ still (One able e is) = All-cons IsNoStep e.call [] (subst IsNoStep (sym is) still) (All-nil IsNoStep)
sends_no b call _ still (NoOne unable) = All-nil IsNoStep

sends_short : (b : Bool) (call : Call) (es : List Exchange) → Sends b call es → (es ≡ []) ⊎ ((f : Exchange) × (es ≡ f ∷ []))
sends_short b call _ (One able e is) = inr (e, refl)
sends_short b call _ (NoOne unable) = inl refl

abbrev pub NoFree : List Exchange → Type 0
NoFree es = All (λ (e : Exchange). e.call ≡ C.Free → ⊥) es

sends_other : (b : Bool) (call : Call) (es : List Exchange) → (call ≡ C.Free → ⊥) → Sends b call es → NoFree es
sends_other b call _ other (One able e is) = All-cons (λ (x : Exchange). x.call ≡ C.Free → ⊥) e [] (λ frees. other (sym is ∙ frees)) (All-nil (λ (x : Exchange). x.call ≡ C.Free → ⊥))
sends_other b call _ other (NoOne unable) = All-nil (λ (x : Exchange). x.call ≡ C.Free → ⊥)

-- a Free at the end leaves whether a step stands before it
before_free : (prefix : List Exchange) (e : Exchange) → e.call ≡ C.Free → has_stepped false (prefix ++ e ∷ []) ≡ has_stepped false prefix
before_free prefix e frees = stepped_on false prefix (e ∷ []) ∙ ap (λ (c : Call). steps c (has_stepped false prefix)) frees

-- neither is a call of an agreement's rounds
round_no_free : (t : ℕ) (c : Call) → IsOfRound t c → c ≡ C.Free → ⊥
round_no_free t c (inl is) frees = absurd (let wrong : C.Restore ≡ C.Free = sym is ∙ frees in cc)
round_no_free t c (inr (size, is)) frees = absurd (let wrong : C.DoStep t size ≡ C.Free = sym is ∙ frees in cc)

no_free : (es : List Exchange) → All IsOther (calls_in es) → NoFree es
no_free es all = λ k d w frees. subst IsOther frees (of_calls IsOther es all k d w)

module _ (system : System) where
  abbrev ss : List Shape
  ss = shapes_of system

  abbrev n : ℕ
  n = length system.components

  -- the last steps of all are good, and end at one point
  abbrev AllAgree : List Sent → Type 0
  AllAgree log = (m : ℕ) × ((k : ℕ) (d : Shape) → k < n → IfSome (last_step None (part k log)) (λ e. IsGood (get_or ss k d) e × EndsAt m e.result))

  -- a Free stands where the state has served, or where all agree
  abbrev pub IsFreed : List Sent → ℕ → Shape → Type 0
  IsFreed log k d = (prefix : List Exchange) (e : Exchange) → part k log ≡ prefix ++ e ∷ [] → e.call ≡ C.Free →
      (has_served (get_or ss k d) false false prefix ≡ true) ⊎ (AllAgree log × (has_stepped false prefix ≡ true))

  -- no state is held
  pub record IsPast (log : List Sent) (k : ℕ) (d : Shape) : Type 0 where
    pub unheld : saved_after (get_or ss k d) false (part k log) ≡ false
    pub freed : IsFreed log k d

  abbrev pub ArePast : List Sent → Type 0
  ArePast log = (k : ℕ) (d : Shape) → k < n → IsPast log k d

  -- a state is held where the shape passes a test, since which no step was made, and which hasn't served
  pub record IsHeld (test : Shape → Bool) (log : List Sent) (k : ℕ) (d : Shape) : Type 0 where
    held : saved_after (get_or ss k d) false (part k log) ≡ test (get_or ss k d)
    unstepped : test (get_or ss k d) ≡ true → has_stepped false (part k log) ≡ false
    unserved : test (get_or ss k d) ≡ true → has_served (get_or ss k d) false false (part k log) ≡ false
    freed : IsFreed log k d

  abbrev AreHeld : (Shape → Bool) → List Sent → Type 0
  AreHeld test log = (k : ℕ) (d : Shape) → k < n → IsHeld test log k d

  -- a state is held only where it hasn't served, and the last steps don't agree or none was made since it was saved
  pub record IsLeft (log : List Sent) (k : ℕ) (d : Shape) : Type 0 where
    pub held : saved_after (get_or ss k d) false (part k log) ≡ true →
        (has_served (get_or ss k d) false false (part k log) ≡ false) × ((AllAgree log → ⊥) ⊎ (has_stepped false (part k log) ≡ false))
    pub freed : IsFreed log k d

  abbrev pub AreLeft : List Sent → Type 0
  AreLeft log = (k : ℕ) (d : Shape) → k < n → IsLeft log k d

  pub past_left : (log : List Sent) → ArePast log → AreLeft log
  past_left log past k d w = record { held = λ held. absurd (let wrong : true ≡ false = sym held ∙ (past k d w).unheld in cc); freed = (past k d w).freed }

  -- the same, after steps that agree
  abbrev HaveMet : (Shape → Bool) → List Sent → Type 0
  HaveMet test log = AllAgree log × ((k : ℕ) (d : Shape) → k < n → (saved_after (get_or ss k d) false (part k log) ≡ test (get_or ss k d)) × (has_stepped false (part k log) ≡ true))

  abbrev mine : (k : ℕ) (P : Call → Type 0) (log : List Sent) → Throughout system P log → All P (calls_in (part k log))
  mine k P log all = subst (All P) (sym (own_calls k log)) (all k)

  pub agree_on : (log more : List Sent) → ((k : ℕ) → k < n → All IsNoStep (calls_in (part k more))) → AllAgree log → AllAgree (log ++ more)
  agree_on log more none (m, all) = (
    m,
    λ k d w. subst (λ (o : Option Exchange). IfSome o (λ e. IsGood (get_or ss k d) e × EndsAt m e.result))
        (sym (ap (last_step None) (part_append k log more) ∙ last_on None (part k log) (part k more) ∙ no_steps (part k more) (last_step None (part k log)) (none k w))) (all k d w),
  )

  -- the call to one of those whose shape passes a test
  sent_to : (test : Shape → Bool) (call : Call) (more : List Sent) → component_calls more ≡ to_those test (λ (z : Shape). call) ss → (k : ℕ) (d : Shape) → k < n → Sends (test (get_or ss k d)) call (part k more)
  sent_to test call more is k d w =
      let c = some_at system.components k w in
      let shape : get_or ss k d ≡ c.0.shape = get_or_from_slice_get ss k c.0.shape d (slice_get-map (λ (x : Component). x.shape) system.components k ∙ ap (option_map (λ (x : Component). x.shape)) c.1) in
      subst (λ (z : Shape). Sends (test z) call (part k more)) (sym shape)
      (by_calls (part k more) (test c.0.shape) call (own_calls k more ∙ ap (own k) is ∙ own_there test (λ (z : Shape). call) system k c.0 c.1))

  module _ (log more : List Sent) where
    -- calls that are no Frees and no steps leave what a Free at the end says
    pub freed_on : (k : ℕ) (d : Shape) → NoFree (part k more) → ((i : ℕ) → i < n → All IsNoStep (calls_in (part i more))) → IsFreed log k d → IsFreed (log ++ more) k d
    freed_on k d none still freed prefix e is frees = by (split_last (part k log) (part k more) prefix e (sym (part_append k log more) ∙ is)) where
      on : (has_served (get_or ss k d) false false prefix ≡ true) ⊎ (AllAgree log × (has_stepped false prefix ≡ true)) →
          (has_served (get_or ss k d) false false prefix ≡ true) ⊎ (AllAgree (log ++ more) × (has_stepped false prefix ≡ true))
      on (inl served) = inl served
      on (inr met) = inr (agree_on log more still met.0, met.1)

      by : (part k more ≡ []) ⊎ ((rest : List Exchange) × (part k more ≡ rest ++ e ∷ [])) →
          (has_served (get_or ss k d) false false prefix ≡ true) ⊎ (AllAgree (log ++ more) × (has_stepped false prefix ≡ true))
      by (inl empty) = on (freed prefix e (sym (append-nil (part k log)) ∙ ap (λ (es : List Exchange). part k log ++ es) (sym empty) ∙ sym (part_append k log more) ∙ is) frees)
      by (inr (rest, last)) = absurd (all_at_one (λ (x : Exchange). x.call ≡ C.Free → ⊥) rest [] e (subst NoFree last none) frees)

    -- other calls, whatever is answered
    pub others_on : ((k : ℕ) → All IsOther (calls_in (part k more))) → ArePast log → ArePast (log ++ more)
    others_on others past k d w = record {
      unheld = ap (saved_after (get_or ss k d) false) (part_append k log more) ∙ saved_on (get_or ss k d) false (part k log) (part k more) ∙ others_saved (get_or ss k d) (part k more) _ (others k) ∙ (past k d w).unheld;
      freed = freed_on k d (no_free (part k more) (others k)) (λ i v. All-weaker IsOther IsNoStep other_no (calls_in (part i more)) (others i)) (past k d w).freed;
    }

    module _ (test : Shape → Bool) where
      saves_on : All (IsGoodOf ss) more → component_calls more ≡ to_those test (λ (z : Shape). C.Save) ss → ArePast log → AreHeld test (log ++ more)
      saves_on good is past k d w =
          let s = get_or ss k d in
          let sends = sent_to test C.Save more is k d w in
          let held = after_save s (part k log) (test s) (part k more) sends (good_part ss more good k d) (past k d w).unheld in
          record {
            held = ap (saved_after s false) (part_append k log more) ∙ held;
            unstepped = λ able. ap (has_stepped false) (part_append k log more) ∙ unstepped s (part k log) (test s) (part k more) sends (past k d w).unheld (held ∙ able);
            unserved = λ able. ap (has_served s false false) (part_append k log more) ∙ unserved s (part k log) (test s) (part k more) sends (past k d w).unheld (held ∙ able);
            freed = freed_on k d (sends_other _ C.Save (part k more) (λ e. absurd (cc)) sends) (λ i v. sends_no _ C.Save (part i more) tt (sent_to test C.Save more is i d v)) (past k d w).freed;
          }

      frees_on : component_calls more ≡ to_those test (λ (z : Shape). C.Free) ss → HaveMet test log → ArePast (log ++ more)
      frees_on is (agree, held) k d w =
          let s = get_or ss k d in
          let free = after_free s (part k log) (test s) (part k more) (sent_to test C.Free more is k d w) (held k d w).0 in
          record {
            unheld = ap (saved_after s false) (part_append k log more) ∙ free.0;
            freed = λ prefix e last frees. inr (
              agree_on log more (λ i v. sends_no _ C.Free (part i more) tt (sent_to test C.Free more is i d v)) agree,
              sym (before_free prefix e frees) ∙ ap (has_stepped false) (sym last ∙ part_append k log more) ∙ free.1 ∙ (held k d w).1,
            );
          }

  -- ---- an agreement

  module _ (t step b : ℕ) (later : t < b) (log more : List Sent) where
    -- one of the FMUs at its beginning
    record Own (k : ℕ) (d : Shape) : Type 0 where
      stand : Stand
      at : slice_get (all_at t ss) k ≡ Some stand
      shape : get_or ss k d ≡ stand.shape
      home : stand.point ≡ t

    own_at : (k : ℕ) (d : Shape) → k < n → Own k d
    own_at k d w =
        let c = some_at system.components k w in
        let s : Stand = record { shape = c.0.shape; point = t; ask = t } in
        let shape_is : slice_get ss k ≡ Some c.0.shape = slice_get-map (λ (x : Component). x.shape) system.components k ∙ ap (option_map (λ (x : Component). x.shape)) c.1 in
        record {
          stand = s;
          at = slice_get-map (λ (z : Shape). record { shape = z; point = t; ask = t }) ss k ∙ ap (option_map (λ (z : Shape). record { shape = z; point = t; ask = t })) shape_is;
          shape = get_or_from_slice_get ss k c.0.shape d shape_is;
          home = refl;
        }

    -- its calls of the agreement
    rounds : AreGoodSteps t ss more → (k : ℕ) (d : Shape) → All (IsGoodRound t (get_or ss k d)) (part k more)
    rounds good k d =
        All-weaker (λ (e : Exchange). ((z : Shape) → IsGood (get_or ss k z) e) × IsOfRound t e.call) (IsGoodRound t (get_or ss k d)) (λ e x. (x.0 d, x.1)) (part k more)
        (part_all (λ i e. ((z : Shape) → IsGood (get_or ss i z) e) × IsOfRound t e.call) k more good)

    -- its last step
    last_of_own : AreGoodSteps t ss more → (k : ℕ) (d : Shape) (w : k < n) → (stand_by t (own_at k d w).stand (part k more)).point ≢ t →
        IsLast t (get_or ss k d) (stand_by t (own_at k d w).stand (part k more)).point (last_step None (part k (log ++ more))) (has_stepped false (part k (log ++ more)))
    last_of_own good k d w away =
        let s = (own_at k d w).stand in
        let led = tracks t (get_or ss k d) (part k more) (rounds good k d) s (last_step None (part k log)) (has_stepped false (part k log)) (λ other. absurd (other (own_at k d w).home)) away in
        let last_is = ap (last_step None) (part_append k log more) ∙ last_on None (part k log) (part k more) in
        let stepped_is = ap (has_stepped false) (part_append k log more) ∙ stepped_on false (part k log) (part k more) in
        record { exchange = led.exchange; is = last_is ∙ led.is; good = led.good; end = led.end; stepped = stepped_is ∙ led.stepped }

    -- after which all agree
    met_on : (test : Shape → Bool) (m : ℕ) → AreHeld test log → AgreeBy system t step b more (Meets m) → HaveMet test (log ++ more)
    met_on test m held agrees = (
      (
        m,
        λ k d w.
            let l = last k d w in
            subst (λ (o : Option Exchange). IfSome o (λ e. IsGood (get_or ss k d) e × EndsAt m e.result)) (sym l.is) (l.good, subst (λ (p : ℕ). EndsAt p l.exchange.result) (there k d w) l.end),
      ),
      λ k d w. (
        ap (saved_after (get_or ss k d) false) (part_append k log more) ∙ saved_on (get_or ss k d) false (part k log) (part k more)
            ∙ rounds_saved t (get_or ss k d) (part k more) (All-weaker (IsGoodRound t (get_or ss k d)) (λ (e : Exchange). IsOfRound t e.call) (λ e x. x.1) (part k more) (rounds so.0 k d)) _ ∙ (held k d w).held,
        (last k d w).stepped,
      ),
    ) where
      so : AreGoodSteps t ss more × (are_at m (stands_by t (all_at t ss) more) ≡ true) × (t < m)
      so = ends_from t step ss b later more (Meets m) agrees

      there : (k : ℕ) (d : Shape) (w : k < n) → (stand_by t (own_at k d w).stand (part k more)).point ≡ m
      there k d w = all_there m (stands_by t (all_at t ss) more) so.1 k (stand_by t (own_at k d w).stand (part k more)) (stand_after t (all_at t ss) more k (own_at k d w).stand (own_at k d w).at)

      last : (k : ℕ) (d : Shape) (w : k < n) → IsLast t (get_or ss k d) (stand_by t (own_at k d w).stand (part k more)).point (last_step None (part k (log ++ more))) (has_stepped false (part k (log ++ more)))
      last k d w = last_of_own so.0 k d w (λ same. absurd (let at = there k d w in let after = so.2 in omega (arith, same, at, after)))

    module _ (good : AreGoodSteps t ss more) (are : AreApart t (stands_by t (all_at t ss) more)) where
      away : (k : ℕ) (d : Shape) (w : k < n) → (stand_by t (own_at k d w).stand (part k more)).point ≢ t
      away k d w same = absurd (let after = are.after k (stand_by t (own_at k d w).stand (part k more)) (stand_after t (all_at t ss) more k (own_at k d w).stand (own_at k d w).at) in omega (arith, same, after))

      -- where all stand apart the last steps don't agree, whatever calls follow that are no steps
      apart_on : (rest : List Sent) → ((k : ℕ) → All IsNoStep (calls_in (part k rest))) → AllAgree ((log ++ more) ++ rest) → ⊥
      apart_on rest still (m, all) = are.apart m (there_all m (stands_by t (all_at t ss) more) (each_after (λ (y : Stand). y.point ≡ m) t (all_at t ss) more (λ k s at. same k s at))) where
        same : (k : ℕ) (s : Stand) → slice_get (all_at t ss) k ≡ Some s → (stand_by t s (part k more)).point ≡ m
        same k s at =
            let at_t : Shape → Stand = λ z. record { shape = z; point = t; ask = t } in
            let w : k < n = let l = length-map ss at_t in let q = length-map system.components (λ (c : Component). c.shape) in let i = slice_get_within (all_at t ss) k s at in omega (arith, l, q, i) in
            let d = s.shape in
            let own = own_at k d w in
            let is : own.stand ≡ s = same_Some own.stand s (sym own.at ∙ at) in
            let l = last_of_own good k d w (away k d w) in
            let all_is : IfSome (last_step None (part k ((log ++ more) ++ rest))) (λ e. IsGood (get_or ss k d) e × EndsAt m e.result) = all k d w in
            let last_is : last_step None (part k ((log ++ more) ++ rest)) ≡ Some l.exchange = ap (last_step None) (part_append k (log ++ more) rest) ∙ last_on None (part k (log ++ more)) (part k rest) ∙ no_steps (part k rest) _ (still k) ∙ l.is in
            let ends = subst (λ (o : Option Exchange). IfSome o (λ e. IsGood (get_or ss k d) e × EndsAt m e.result)) last_is all_is in
            ap (λ (x : Stand). (stand_by t x (part k more)).point) (sym is) ∙ ends_same (stand_by t own.stand (part k more)).point m l.exchange.result l.end ends.1

      stepped_there : (k : ℕ) (d : Shape) (w : k < n) → part k more ≡ [] → ⊥
      stepped_there k d w empty = away k d w (ap (λ (es : List Exchange). (stand_by t (own_at k d w).stand es).point) empty ∙ (own_at k d w).home)

    -- a talk that ends with a round doesn't end with a Free
    no_free_last : AreGoodSteps t ss more → (rest : List Sent) → ((k : ℕ) → NoFree (part k rest)) → (k : ℕ) (d : Shape) → (part k (more ++ rest) ≡ [] → ⊥) → IsFreed (log ++ (more ++ rest)) k d
    no_free_last good rest none k d begun prefix e is frees = by (split_last (part k log) (part k (more ++ rest)) prefix e (sym (part_append k log (more ++ rest)) ∙ is)) where
      all_none : NoFree (part k (more ++ rest))
      all_none = subst NoFree (sym (part_append k more rest)) (All-append (λ (x : Exchange). x.call ≡ C.Free → ⊥) (part k more) (part k rest) (All-weaker (λ (x : Exchange). IsOfRound t x.call) (λ (x : Exchange). x.call ≡ C.Free → ⊥) (λ x round frees. round_no_free t x.call round frees) (part k more) (part_all (λ i x. IsOfRound t x.call) k more (λ i x w. (good i x w).1))) (none k))

      by : (part k (more ++ rest) ≡ []) ⊎ ((r : List Exchange) × (part k (more ++ rest) ≡ r ++ e ∷ [])) → (has_served (get_or ss k d) false false prefix ≡ true) ⊎ (AllAgree (log ++ (more ++ rest)) × (has_stepped false prefix ≡ true))
      by (inl empty) = absurd (begun empty)
      by (inr (r, last)) = absurd (all_at_one (λ (x : Exchange). x.call ≡ C.Free → ⊥) r [] e (subst NoFree last all_none) frees)

  -- a state that is held after an agreement hasn't served
  module _ (t step b : ℕ) (later : t < b) (test : Shape → Bool) (log more : List Sent) (o : A.Outcome) (agrees : AgreeBy system t step b more o) (held : AreHeld test log) where
    alternate : (k : ℕ) (d : Shape) → k < n → Alternates t false (calls_in (part k more))
    alternate k d w =
        let own = own_at t step b later log more k d w in
        alternates_from t step (asked_first (early_count ss)) k b (all_at t ss) more o agrees own.stand own.at own.home

    still_unserved : (k : ℕ) (d : Shape) → k < n → saved_after (get_or ss k d) false (part k (log ++ more)) ≡ true → has_served (get_or ss k d) false false (part k (log ++ more)) ≡ false
    still_unserved k d w h =
        let s = get_or ss k d in
        let all : All (λ (e : Exchange). IsOfRound t e.call) (part k more) = of_calls (IsOfRound t) (part k more) (calls_all (IsOfRound t) t (λ size. inr (size, refl)) (inl refl) (calls_in (part k more)) false (alternate k d w)) in
        let same : saved_after s false (part k (log ++ more)) ≡ test s =
        ap (saved_after s false) (part_append k log more) ∙ saved_on s false (part k log) (part k more) ∙ rounds_saved t s (part k more) all _ ∙ (held k d w).held in
        let able : test s ≡ true = sym same ∙ h in
        ap (has_served s false false) (part_append k log more) ∙ served_on s false false (part k log) (part k more)
        ∙ rounds_served s t (part k more) false (has_stepped false (part k log)) (has_served s false false (part k log)) (λ wrong. absurd (cc)) (alternate k d w) ∙ (held k d w).unserved able

  held_left : (test : Shape → Bool) (log : List Sent) → AreHeld test log → AreLeft log
  held_left test log held k d w = record { held = λ h. ((held k d w).unserved (sym (held k d w).held ∙ h), inr ((held k d w).unstepped (sym (held k d w).held ∙ h))); freed = (held k d w).freed }

  -- the agreement stops before a size that a component doesn't take
  short_on : early_count ss ≢ 1 → (t step b : ℕ) (later : t < b) (test : Shape → Bool) (log more : List Sent) (i e : ℕ) → AreHeld test log → AgreeBy system t step b more (Unfit i e) → AreLeft (log ++ more)
  short_on several t step b later test log more i e held agrees = by so.1 where
    so : AreGoodSteps t ss more × ((more ≡ []) ⊎ (AreApart t (stands_by t (all_at t ss) more) ⊎ (early_count ss ≡ 1)))
    so = ends_from t step ss b later more (Unfit i e) agrees

    by : (more ≡ []) ⊎ (AreApart t (stands_by t (all_at t ss) more) ⊎ (early_count ss ≡ 1)) → AreLeft (log ++ more)
    by (inl none) k d w = subst AreLeft (sym (ap (λ (l : List Sent). log ++ l) none ∙ append-nil log)) (held_left test log held) k d w
    by (inr (inr one)) k d w = absurd (several one)
    by (inr (inl are)) k d w = record {
      held = λ h. (still_unserved t step b later test log more (Unfit i e) agrees held k d w h, inl (λ agree. apart_on t step b later log more so.0 are [] (λ j. All-nil IsNoStep) (subst AllAgree (sym (append-nil (log ++ more))) agree)));
      freed = subst (λ (l : List Sent). IsFreed (log ++ l) k d) (append-nil more)
          (no_free_last t step b later log more so.0 [] (λ j. All-nil (λ (x : Exchange). x.call ≡ C.Free → ⊥)) k d (λ empty. stepped_there t step b later log more so.0 are k d w (sym (ap (part k) (append-nil more)) ∙ empty)));
    }

  -- or it comes to a bad answer
  module _ (several : early_count ss ≢ 1) (t step b : ℕ) (later : t < b) (log more : List Sent) (bad : BadAnswer) (agrees : AgreeBy system t step b more (Fails bad)) where
    broken : IsBroken t step ss bad (all_at t ss) more
    broken = ends_from t step ss b later more (Fails bad) agrees

    -- it is that of a component which is there
    there : bad.component.0 < n
    there =
        let e = agreement_has system t step b more (Fails bad) agrees in
        let is = e.first.component in
        let w = e.within in
        let l = length-map system.components (λ (c : Component). c.shape) in
        omega (arith, is, w, l)

    calls_no : (P : Call → Type 0) → ((size : ℕ) → P (C.DoStep t size)) → P C.Restore → All (λ (s : Sent). P s.exchange.call) broken.more
    calls_no P steps backs = by broken.by where
      by : ((size : ℕ) × FailsIn ss (A.to_some broken.test (C.DoStep t size) broken.there) bad broken.more) ⊎ (AreApart t (stands_by t (all_at t ss) broken.prefix) × FailsIn ss (A.to_some broken.test C.Restore broken.there) bad broken.more) → All (λ (s : Sent). P s.exchange.call) broken.more
      by (inl (size, f)) = round_calls P broken.test (C.DoStep t size) (steps size) broken.there broken.more f.calls_are
      by (inr (are, f)) = round_calls P broken.test C.Restore backs broken.there broken.more f.calls_are

    no_free_more : (k : ℕ) → NoFree (part k broken.more)
    no_free_more k = part_all (λ i x. x.call ≡ C.Free → ⊥) k broken.more (calls_no (λ c. c ≡ C.Free → ⊥) (λ size frees. absurd (cc)) (λ frees. absurd (cc)))

    never_agree : AllAgree ((log ++ broken.prefix) ++ broken.more) → ⊥
    never_agree agree = by broken.by where
      by : ((size : ℕ) × FailsIn ss (A.to_some broken.test (C.DoStep t size) broken.there) bad broken.more) ⊎ (AreApart t (stands_by t (all_at t ss) broken.prefix) × FailsIn ss (A.to_some broken.test C.Restore broken.there) bad broken.more) → ⊥
      by (inr (are, f)) = apart_on t step b later log broken.prefix broken.good are broken.more
          (λ k. calls_all k (part_all (λ i x. IsNoStep x.call) k broken.more (round_calls IsNoStep broken.test C.Restore tt broken.there broken.more f.calls_are))) agree where
            calls_all : (k : ℕ) → All (λ (x : Exchange). IsNoStep x.call) (part k broken.more) → All IsNoStep (calls_in (part k broken.more))
            calls_all k all = to_calls IsNoStep (part k broken.more) all
      by (inl (size, f)) =
          let i = f.last.component in
          let w : f.last.component < n = subst (λ (j : ℕ). j < n) (sym f.first.component) there in
          let d = get_or ss i (some_at system.components i w).0.shape in
          let s = get_or ss i d in
          let none : part f.last.component f.back ≡ [] = alone_after 0 f.prefix f.last f.back (subst (AreInOrder 0) (sym f.calls_are ∙ ap component_calls f.log_is) (in_order_from broken.test (λ x. C.DoStep t size) 0 0 broken.there (omega arith))) i (omega arith) in
          let here : part i broken.more ≡ part i f.prefix ++ f.last.exchange ∷ [] =
          ap (part i) f.log_is ∙ part_append i f.prefix (f.last ∷ f.back) ∙ ap (λ (es : List Exchange). part i f.prefix ++ es) (takes (i == i) f.last.exchange (part i f.back) (same i i refl) ∙ ap (λ (es : List Exchange). f.last.exchange ∷ es) none) in
          let call : f.last.exchange.call ≡ C.DoStep t size = all_at_one (λ (x : Sent). x.exchange.call ≡ C.DoStep t size) f.prefix f.back f.last (subst (All (λ (x : Sent). x.exchange.call ≡ C.DoStep t size)) f.log_is (round_calls (λ c. c ≡ C.DoStep t size) broken.test (C.DoStep t size) refl broken.there broken.more f.calls_are)) in
          let last_is : last_step None (part i ((log ++ broken.prefix) ++ broken.more)) ≡ Some f.last.exchange =
          ap (last_step None) (part_append i (log ++ broken.prefix) broken.more ∙ ap (λ (es : List Exchange). part i (log ++ broken.prefix) ++ es) here)
          ∙ last_on None (part i (log ++ broken.prefix)) (part i f.prefix ++ f.last.exchange ∷ []) ∙ last_on (last_step None (part i (log ++ broken.prefix))) (part i f.prefix) (f.last.exchange ∷ [])
          ∙ ap (λ (c : Call). step_or f.last.exchange c (last_step (last_step None (part i (log ++ broken.prefix))) (part i f.prefix))) call in
          let good = subst (λ (o : Option Exchange). IfSome o (λ e. IsGood s e × EndsAt agree.0 e.result)) last_is (agree.1 i d w) in
          why_bad s bad.why f.last.exchange (f.first.why d) good.0

    left_broken : (test : Shape → Bool) → AreHeld test log → AreLeft (log ++ more)
    left_broken test held k d w = record {
      held = λ h. (
        still_unserved t step b later test log more (Fails bad) agrees held k d w h,
        inl (λ agree. never_agree (subst AllAgree (ap (λ (l : List Sent). log ++ l) broken.log_is ∙ sym (append_assoc log broken.prefix broken.more)) agree)),
      );
      freed = subst (λ (l : List Sent). IsFreed (log ++ l) k d) (sym broken.log_is) (no_free_last t step b later log broken.prefix broken.good broken.more no_free_more k d (λ empty. begun (ap (part k) broken.log_is ∙ empty)));
    } where
      begun : part k more ≡ [] → ⊥
      begun empty =
          let x = begins_all t step ss b more bad (all_at t ss) refl (all_first_by t step ss b (all_at t ss) more (Fails bad) several agrees) in
          let whole = sym (ap (part k) x.log_is ∙ part_append k (x.backs ++ x.steps) x.rest ∙ ap (λ (es : List Exchange). es ++ part k x.rest) (part_append k x.backs x.steps)) ∙ empty in
          let none : part k x.steps ≡ [] = (none_both (part k x.backs) (part k x.steps) (none_both (part k x.backs ++ part k x.steps) (part k x.rest) whole).0).1 in
          one x.size (part k x.steps) (sent_to everyone (C.DoStep t x.size) x.steps x.asked k d w) none where
            one : (size : ℕ) (es : List Exchange) → Sends true (C.DoStep t size) es → es ≡ [] → ⊥
            one size _ (One able e call) none = absurd (cc)
            one size _ (NoOne unable) none = absurd (cc)

    no_free_whole : (k : ℕ) → NoFree (part k more)
    no_free_whole k = subst NoFree (sym (ap (part k) broken.log_is ∙ part_append k broken.prefix broken.more))
        (All-append (λ (x : Exchange). x.call ≡ C.Free → ⊥) (part k broken.prefix) (part k broken.more) (part_all (λ i x. x.call ≡ C.Free → ⊥) k broken.prefix (λ i x w. round_no_free t _ (broken.good i x w).1)) (no_free_more k))

  none_past : ArePast []
  none_past k d w = record { unheld = refl; freed = λ prefix e is frees. absurd (never prefix e [] (sym is)) }

  pub made_past : (link : ℕ) (made : List Sent) → component_calls made ≡ making link system → ArePast made
  made_past link made is = others_on [] made (λ k. mine k IsOther made (λ i. subst (λ (cs : List ComponentCall). All IsOther (own i cs)) (sym is) (those system IsOther everyone (instantiate_of link) (λ s. tt) i))) none_past

  -- ---- whatever talks they end

  module _ (log : List Sent) (talks : List Talk) (ends : EndAs system log talks) where
    abbrev none_yet : Shape → Talk
    none_yet d = record { shape = d; exchanges = [] }

    len : length talks ≡ n
    len = sym (length-map talks (λ (t : Talk). t.shape)) ∙ ap length ends.shapes ∙ length-map system.components (λ (c : Component). c.shape)

    shape_in : (k : ℕ) (d : Shape) → k < n → (get_or talks k (none_yet d)).shape ≡ get_or ss k d
    shape_in k d w =
        let t = get_or talks k (none_yet d) in
        let within : k < length talks = let l = len in omega (arith, l, w) in
        map_at (λ (x : Talk). x.shape) talks k t d within (get_or_default talks k (none_yet d) t within) ∙ ap (λ (l : List Shape). get_or l k d) ends.shapes

    abbrev Agrees : ℕ → Shape → Option Exchange → Type 0
    Agrees m s o = IfSome o (λ e. IsGood s e × EndsAt m e.result)

    agree_all : AgreeAtLast talks → AllAgree log
    agree_all (m, all) = (
      m,
      λ k d w.
          let within : k < length talks = let l = len in omega (arith, l, w) in
          subst (λ (s : Shape). Agrees m s (last_step None (part k log))) (shape_in k d w)
          (subst (Agrees m (get_or talks k (none_yet d)).shape) (ends.steps k (none_yet d) w) (all k (none_yet d) within)),
    )

    agree_back : AllAgree log → AgreeAtLast talks
    agree_back (m, all) = (
      m,
      λ k t w.
          let within : k < n = let l = len in omega (arith, l, w) in
          let d = (get_or talks k t).shape in
          let same : get_or talks k t ≡ get_or talks k (none_yet d) = get_or_default talks k t (none_yet d) w in
          subst (λ (s : Shape). Agrees m s (last_step None (get_or talks k t).exchanges)) (sym (shape_in k d within) ∙ ap (λ (x : Talk). x.shape) (sym same))
          (subst (Agrees m (get_or ss k d)) (sym (ends.steps k t within)) (all k d within)),
    )

    pub left_so : AreLeft log → (k : ℕ) (d : Shape) → k < n → ((prefix rest : List Exchange) (e : Exchange) → part k log ≡ prefix ++ e ∷ rest → IsGivenUp e → rest ≡ []) → LeavesState talks (get_or ss k d) (part k log)
    left_so left k d w last = record {
      held = λ held. let x = (left k d w).held held in (x.0, held_by x.1);
      freed = λ prefix e is frees. freed_by prefix ((left k d w).freed prefix e is frees);
      last = last;
    } where
      held_by : (AllAgree log → ⊥) ⊎ (has_stepped false (part k log) ≡ false) → (AgreeAtLast talks → ⊥) ⊎ (has_stepped false (part k log) ≡ false)
      held_by (inl never) = inl (λ agree. never (agree_all agree))
      held_by (inr none) = inr none

      freed_by : (prefix : List Exchange) → (has_served (get_or ss k d) false false prefix ≡ true) ⊎ (AllAgree log × (has_stepped false prefix ≡ true)) →
          (has_served (get_or ss k d) false false prefix ≡ true) ⊎ (AgreeAtLast talks × (has_stepped false prefix ≡ true))
      freed_by prefix (inl served) = inl served
      freed_by prefix (inr met) = inr (agree_back met.0, met.1)

-- ---- what the calls from a place are to saved states

-- other calls; a Save or a Free to those whose shape passes a test, of whom a state is then held or was; an agreement while theirs are held; or nothing more
pub data Task : Type 0 where
  Keeping : Task
  Saving : (Shape → Bool) → Task
  Meeting : (Shape → Bool) → (t step bound : ℕ) → Task
  Freeing : (Shape → Bool) → Task
  Halting : Task

-- where two or more might return early the state of each is held
abbrev saved_in : System → Shape → Bool
saved_in system = is_saved (early_count (shapes_of system))

abbrev task_at : System → Plan → Place → Task
task_at system plan (Departing w) = Saving (saved_in system)
task_at system plan (Saved w) = Meeting (saved_in system) w.s.t plan.step w.to
task_at system plan (Short w component end) = Halting
task_at system plan (Agreed w point asked) = Freeing (saved_in system)
task_at system plan p = Keeping

module _ (system : System) where
  -- how it stands before them, and after good answers
  abbrev Before : Task → List Sent → Type 0
  Before (Meeting test t step b) log = AreHeld system test log × (t < b)
  Before (Freeing test) log = HaveMet system test log
  Before Halting log = AreLeft system log
  Before task log = ArePast system log

  abbrev After : Task → (prefix more : List Sent) → Type 0
  After (Saving test) prefix more = AreHeld system test (prefix ++ more)
  After (Meeting test t step b) prefix more = AreHeld system test prefix × (t < b)
  After Halting prefix more = Unit {0}
  After task prefix more = ArePast system (prefix ++ more)

  -- such calls are asked
  abbrev Asks : Task → List Sent → Type 0
  Asks Keeping more = (k : ℕ) → All IsOther (calls_in (part k more))
  Asks (Saving test) more = component_calls more ≡ to_those test (λ (z : Shape). C.Save) (shapes_of system)
  Asks (Freeing test) more = component_calls more ≡ to_those test (λ (z : Shape). C.Free) (shapes_of system)
  Asks task more = Unit {0}

  done : (task : Task) (prefix more : List Sent) → Before task prefix → Asks task more → All (IsGoodOf (shapes_of system)) more → After task prefix more
  done Keeping prefix more at asks good = others_on system prefix more asks at
  done (Saving test) prefix more at asks good = saves_on system prefix more test good asks at
  done (Meeting test t step b) prefix more at asks good = at
  done (Freeing test) prefix more at asks good = frees_on system prefix more test asks at
  done Halting prefix more at asks good = tt

  -- one of them was answered badly
  abbrev AsksBadly : Task → BadAnswer → List Sent → Type 0
  AsksBadly (Meeting test t step b) bad more = AgreeBy system t step b more (Fails bad)
  AsksBadly Halting bad more = StopsAt (shapes_of system) [] bad more
  AsksBadly task bad more = Asks task more

  abbrev Leaves : List Sent → Type 0
  Leaves log = (talks : List Talk) → EndAs system log talks → (k : ℕ) (d : Shape) → k < length system.components → LeavesState talks (get_or (shapes_of system) k d) (part k log)

  pub good_keeps : (log : List Sent) → All (IsGoodOf (shapes_of system)) log → (k : ℕ) (d : Shape) → All IsKept (part k log)
  good_keeps log good k d = All-weaker (IsGood (get_or (shapes_of system) k d)) IsKept (good_kept (get_or (shapes_of system) k d)) (part k log) (good_part (shapes_of system) log good k d)

  -- after calls with good answers others, of which none is a Free
  pub keeps_on : (prefix more : List Sent) → All (IsGoodOf (shapes_of system)) prefix → (k : ℕ) (d : Shape) → NoFree (part k more) → All IsKept (part k (prefix ++ more))
  keeps_on prefix more good k d none = subst (All IsKept) (sym (part_append k prefix more)) (All-append IsKept (part k prefix) (part k more) (good_keeps prefix good k d) (other_kept (part k more) none))

  fell : early_count (shapes_of system) ≢ 1 → (task : Task) (prefix more : List Sent) (bad : BadAnswer) → Before task prefix → All (IsGoodOf (shapes_of system)) prefix → AsksBadly task bad more → Leaves (prefix ++ more)
  fell several Keeping prefix more bad past good others talks ends k d w =
      left_so system (prefix ++ more) talks ends (past_left system (prefix ++ more) (others_on system prefix more others past)) k d w
      (λ f rest e is given. kept_last (part k (prefix ++ more)) f rest e (keeps_on prefix more good k d (no_free (part k more) (others k))) is given)
  fell several (Saving test) prefix more bad past good asks talks ends k d w =
      left_so system (prefix ++ more) talks ends saves_left k d w (λ f rest e is given. kept_last (part k (prefix ++ more)) f rest e (keeps_on prefix more good k d none) is given) where
        sends : (i : ℕ) (z : Shape) → i < length system.components → Sends (test (get_or (shapes_of system) i z)) C.Save (part i more)
        sends i z v = sent_to system test C.Save more asks i z v

        none : NoFree (part k more)
        none = sends_other _ C.Save (part k more) (λ e. absurd (cc)) (sends k d w)

        saves_left : AreLeft system (prefix ++ more)
        saves_left i z v =
            let s = get_or (shapes_of system) i z in record {
              held = λ held.
                  let here : saved_after s false (part i prefix ++ part i more) ≡ true = ap (saved_after s false) (sym (part_append i prefix more)) ∙ held in (
                    ap (has_served s false false) (part_append i prefix more) ∙ unserved s (part i prefix) _ (part i more) (sends i z v) (past i z v).unheld here,
                    inr (ap (has_stepped false) (part_append i prefix more) ∙ unstepped s (part i prefix) _ (part i more) (sends i z v) (past i z v).unheld here),
                  );
              freed = freed_on system prefix more i z (sends_other _ C.Save (part i more) (λ e. absurd (cc)) (sends i z v)) (λ j u. sends_no _ C.Save (part j more) tt (sends j z u)) (past i z v).freed;
            }
  fell several (Meeting test t step b) prefix more bad (held, later) good agrees talks ends k d w =
      left_so system (prefix ++ more) talks ends (left_broken system several t step b later prefix more bad agrees test held) k d w
      (λ f rest e is given. kept_last (part k (prefix ++ more)) f rest e (keeps_on prefix more good k d (no_free_whole system several t step b later prefix more bad agrees k)) is given)
  fell several Halting prefix more bad left good stops talks ends k d w = absurd (never_stops stops.prefix (stops.calls_are ∙ ap (λ (l : List Sent). component_calls l ++ stops.left) stops.log_is)) where
    never_stops : (f : List Sent) → [] ≡ component_calls (f ++ stops.last ∷ []) ++ stops.left → ⊥
    never_stops [] is = absurd (cc)
    never_stops (x ∷ f) is = absurd (cc)
  fell several (Freeing test) prefix more bad met good asks talks ends k d w =
      left_so system (prefix ++ more) talks ends (past_left system (prefix ++ more) (frees_on system prefix more test asks met)) k d w
      (λ f rest e is given. last_of (part k prefix) (part k more) f rest e (good_keeps prefix good k d) (sends_short _ C.Free (part k more) (sent_to system test C.Free more asks k d w)) (sym (part_append k prefix more) ∙ is) given)

-- ---- along a course

module _ (system : System) (sound : IsSound system) (bound : Bound) (plan : Plan) (binds : BindsParameters system bound) (several : early_count (shapes_of system) ≢ 1) where
  abbrev parts : Place → List Sent → Type 0
  parts p more = Throughout system (IsOf (sort_at p)) more

  others_of : (p : Place) (more : List Sent) → is_plain (sort_at p) ≡ true → parts p more → (k : ℕ) → All IsOther (calls_in (part k more))
  others_of p more plain sorts k = mine system k IsOther more (λ i. All-weaker (IsOf (sort_at p)) IsOther (other_of (sort_at p) plain) (own i (component_calls more)) (sorts i))

  abbrev task : Place → Task
  task p = task_at system plan p

  asks_at : (p : Place) (values : List (Option ℤ)) (more : List Sent) → parts p more → Does system (part_at system bound plan p) values more → Asks system (task p) more
  asks_at (Departing w) values more sorts does = does.calls_are
  asks_at (Saved w) values more sorts does = tt
  asks_at (Short w i e) values more sorts does = tt
  asks_at (Agreed w m asked) values more sorts does = does.calls_are
  asks_at p values more sorts does = others_of p more refl sorts

  falls_at : (p : Place) (bad : BadAnswer) (more : List Sent) → parts p more → Falls system (part_at system bound plan p) bad more → AsksBadly system (task p) bad more
  falls_at (Departing w) bad more sorts falls = falls.calls_are
  falls_at (Saved w) bad more sorts falls = falls
  falls_at (Short w i e) bad more sorts falls = falls
  falls_at (Agreed w m asked) bad more sorts falls = falls.calls_are
  falls_at p bad more sorts falls = others_of p more refl sorts

  next : (prefix : List Sent) (p q : Place) (values : List (Option ℤ)) (more : List Sent) → LeadsTo system plan p values more q → IsLater p → After system (task p) prefix more → Before system (task q) (prefix ++ more)
  next prefix _ _ _ _ (Saves w values more) later held = (held, later)
  next prefix _ _ _ _ (Agreeing w values more m asked agrees is) later (held, after) = met_on system w.s.t plan.step w.to after prefix more (saved_in system) m held agrees
  next prefix _ _ _ _ (Stopping w values more i e agrees) later (held, after) = short_on system several w.s.t plan.step w.to after (saved_in system) prefix more i e held agrees
  next prefix _ _ _ _ leads later past = past

  -- where a run may stop
  halted : (p : Place) → IsHalt p → (log : List Sent) → Before system (task p) log → AreLeft system log
  halted (Departing w) halts log at = absurd halts
  halted (Saved w) halts log at = absurd halts
  halted (Short w i e) halts log at = at
  halted (Agreed w m asked) halts log at = absurd halts
  halted p halts log at = past_left system log at

  pub record IsAt (p : Place) (log : List Sent) : Type 0 where
    pub later : IsLater p
    pub before : Before system (task p) log
    pub good : All (IsGoodOf (shapes_of system)) log

  pub made_at : (made : List Sent) → IsAnswered (shapes_of system) (making plan.link system) made → IsAt Made made
  made_at made answered = record { later = tt; before = made_past system plan.link made answered.calls_are; good = answered.good }

  -- from the first place of a course on, after this log
  module _ (extent : Extent) (past : List Sent) (start : IsAt (first_of extent) past) where
    pub course_at : (p : Place) (log : List Sent) (is : List Instant) → CourseIn system bound plan extent p log is → IsAt p (past ++ log)
    course_at = along system bound plan extent (λ p log is. IsAt p (past ++ log))
        (subst (IsAt (first_of extent)) (sym (append-nil past)) start)
        (λ p q values prefix more is course at does leads within.
        let good = part_good system (part_at system bound plan p) values more does in
        let sorts = does_all system (IsOf (sort_at p)) (part_at system bound plan p) (sorts_are system sound bound plan binds p) values more does in
        subst (IsAt q) (append_assoc past prefix more) (record {
          later = later_on system plan p q values more leads at.later;
          before = next (past ++ prefix) p q values more leads at.later (done system (task p) (past ++ prefix) more at.before (asks_at p values more sorts does) good);
          good = All-append (IsGoodOf (shapes_of system)) (past ++ prefix) more at.good good;
        }))

    pub stands_left : (p : Place) (log : List Sent) (is : List Instant) → CourseIn system bound plan extent p log is → IsHalt p → (talks : List Talk) → EndAs system (past ++ log) talks → (k : ℕ) (d : Shape) → k < length system.components → LeavesState talks (get_or (shapes_of system) k d) (part k (past ++ log))
    stands_left p log is course halts talks ends k d w =
        let at = course_at p log is course in
        left_so system (past ++ log) talks ends (halted p halts (past ++ log) at.before) k d w
        (λ f rest e is given. kept_last (part k (past ++ log)) f rest e (good_keeps system (past ++ log) at.good k d) is given)

    pub falls_left : (p : Place) (bad : BadAnswer) (prefix more : List Sent) (is : List Instant) → CourseIn system bound plan extent p prefix is → Falls system (part_at system bound plan p) bad more → (talks : List Talk) → EndAs system (past ++ (prefix ++ more)) talks → (k : ℕ) (d : Shape) → k < length system.components →
        LeavesState talks (get_or (shapes_of system) k d) (part k (past ++ (prefix ++ more)))
    falls_left p bad prefix more is course falls talks ends k d w =
        let at = course_at p prefix is course in
        let sorts = falls_all system (IsOf (sort_at p)) (part_at system bound plan p) (sorts_are system sound bound plan binds p) bad more falls in
        subst (λ (l : List Sent). LeavesState talks (get_or (shapes_of system) k d) (part k l)) (append_assoc past prefix more)
        (fell system several (task_at system plan p) (past ++ prefix) more bad at.before at.good (falls_at p bad more sorts falls) talks
        (subst (λ (l : List Sent). EndAs system l talks) (sym (append_assoc past prefix more)) ends) k d w)

-- ---- where one alone might return early

leaves_none : (system : System) (log : List Sent) → Throughout system IsStateless log → (talks : List Talk) (k : ℕ) (d : Shape) → LeavesState talks (get_or (shapes_of system) k d) (part k log)
leaves_none system log all talks k d = record {
  held = λ held. absurd (let wrong : true ≡ false = sym held ∙ never_held (get_or (shapes_of system) k d) (part k log) calls in cc);
  freed = λ prefix e is frees. absurd (all_at_one (λ (x : Exchange). x.call ≡ C.Free → ⊥) prefix [] e (subst (λ (es : List Exchange). All (λ (x : Exchange). x.call ≡ C.Free → ⊥) es) is none) frees);
  last = λ f rest e is given. kept_last (part k log) f rest e (other_kept (part k log) none) is given;
} where
  calls : All IsStateless (calls_in (part k log))
  calls = subst (All IsStateless) (sym (own_calls k log)) (all k)

  none : All (λ (x : Exchange). x.call ≡ C.Free → ⊥) (part k log)
  none = λ j x w frees. subst IsStateless frees (of_calls IsStateless (part k log) calls j x w)

number : (x y : ℕ) → (x == y) ≡ true → x ≡ y
number x y q = grind (arith, nat_tests)

other_number : (x y : ℕ) → (x == y) ≡ false → x ≢ y
other_number x y q = grind (arith, nat_tests)

-- of how many might return early: one alone, or none or several
pub one_or_not : {X : Type 0} (n : ℕ) → (n ≡ 1 → X) → (n ≢ 1 → X) → X
one_or_not {X} n one other = by (n == 1) refl where
  by : (x : Bool) → (n == 1) ≡ x → X
  by true h = one (number n 1 h)
  by false h = other (other_number n 1 h)

-- where none might, or several
several_left : (system : System) → IsSound system → early_count (shapes_of system) ≢ 1 → (bad : Option BadAnswer) (log : List Sent) → Comes system bad log → (talks : List Talk) → EndAs system log talks → (k : ℕ) (d : Shape) → k < length system.components → LeavesState talks (get_or (shapes_of system) k d) (part k log)
several_left system sound several _ _ (Unmade link bad log stops) talks ends k d w =
    fell system several Keeping [] log bad (none_past system) (All-nil (IsGoodOf (shapes_of system)))
    (λ i. mine system i IsOther log (falls_all system IsOther (Calls (making link system)) (those system IsOther everyone (instantiate_of link) (λ s. tt)) bad log stops)) talks ends k d w
several_left system sound several _ _ (Stands bound plan p made log is binds counts answered course halts) talks ends k d w =
    stands_left system sound bound plan binds several Whole made (made_at system sound bound plan binds several made answered) p log is course halts talks ends k d w
several_left system sound several _ _ (Falling bound plan p bad made prefix more is binds counts answered course falls) talks ends k d w =
    falls_left system sound bound plan binds several Whole made (made_at system sound bound plan binds several made answered) p bad prefix more is course falls talks ends k d w

pub whole_left : (system : System) → IsSound system → (bad : Option BadAnswer) (log : List Sent) → Comes system bad log → (talks : List Talk) → EndAs system log talks → (k : ℕ) (d : Shape) → k < length system.components → LeavesState talks (get_or (shapes_of system) k d) (part k log)
whole_left system sound bad log comes talks ends k d w =
    one_or_not (early_count (shapes_of system))
    (λ one. leaves_none system log (comes_stateless system sound (omega (arith, one)) bad log comes) talks k d)
    (λ several. several_left system sound several bad log comes talks ends k d w)
