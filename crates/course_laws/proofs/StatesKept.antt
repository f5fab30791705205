-- How a run that is held leaves the states that it keeps, and one that is resumed those that it goes back to: each is freed, but where an answer isn't good.
use Rattle.std.proofs.Common.{◌≡◌, ◌≢◌, ◌⊎◌, inl, inr, ℕ, ◌+◌, ◌<◌, ◌==◌, Bool, true, false, List, [], ◌∷◌, ◌++◌, Result, Ok, Err, refl, sym, ap, ap₂, ◌∙◌, subst, append-nil, append_assoc, arith, length, get_or}
use Rattle.std.specs.Prelude.{All, MatchResult, if◌then◌else◌}
use Rattle.std.proofs.lemmas.Bool.Decides.{nat_tests}
use Rattle.std.proofs.lemmas.List.{length-map}
use Rattle.std.proofs.lemmas.List.Elements.{All-append, All-cons, All-head, All-nil, All-tail}
use Rattle.value_types.specs.declared.shape.Shape.{Shape}
use Rattle.fmi_calls.specs.declared.call.Call.{Call}
use Rattle.fmi_calls.specs.declared.call.Call.TheVariants as C
use Rattle.fmi_calls.specs.declared.call.Grade.{Grade}
use Rattle.fmi_calls.specs.declared.call.Grade.TheVariants as G
use Rattle.fmi_calls.specs.declared.call.Reply.{Reply}
use Rattle.fmi_calls.specs.Worth.{grade_of}
use Rattle.fmu_peer.specs.declared.ended.Why.{Why}
use Rattle.fmu_peer.specs.declared.ended.Why.TheVariants.{Refused, Misreply}
use Rattle.fmu_peer.specs.declared.peer.Exchange.{Exchange}
use Rattle.fmu_peer.specs.declared.peer.PeerFault.{PeerFault}
use Rattle.fmu_peer.specs.Answer.{IsWhy}
use Rattle.fmu_peer.specs.Talk.{IsGood, calls_in}
use Rattle.system_model.specs.declared.bound.Bound.{Bound}
use Rattle.system_model.specs.declared.plan.Plan.{Plan}
use Rattle.system_model.specs.declared.system.Component.{Component}
use Rattle.system_model.specs.declared.system.System.{System}
use Rattle.system_model.specs.Bounds.{BindsParameters}
use Rattle.system_model.specs.EarlyReturn.{early_count}
use Rattle.system_model.specs.Sound.{IsSound}
use Rattle.system_model.specs.Text.{Instant}
use Rattle.slot_calls.specs.declared.bad_answer.BadAnswer.{BadAnswer}
use Rattle.slot_calls.specs.Log.{ComponentCall, Sent, component_call, component_calls, part}
use Rattle.slot_calls.specs.SavedStates.{LeavesState, Talk, has_served, has_stepped, if_good, is_good, saved_after, saved_by, serves, steps}
use Rattle.slot_calls.specs.Stage.{IsAnswered, IsFirst, IsGoodOf, StopsAt, has_events, shapes_of}
use Rattle.slot_calls.proofs.CallerLemmas.{first_same, other, part_append, rest_same, same, saved_on, served_on, skips, stepped_on, takes}
use Rattle.calling_sequence.specs.Calls.{entering_step, keeping, making, restoring}
use Rattle.calling_sequence.specs.Course.{CourseIn, FromHeld, InstantDone, Spot, Whole}
use Rattle.calling_sequence.specs.Holding.{holding}
use Rattle.event_iteration.specs.WalkCalls.{own}
use Rattle.calling_sequence.specs.Parts.{Calls}
use Rattle.course_laws.specs.Laws.{EndAs, IsStateless, StatesAreLeft}
use Rattle.course_laws.specs.Runs.{BackBadly, BackFalling, BackStands, Holding, HoldingBadly, MayBack, Wholly}
use Rattle.course_laws.proofs.FirstBad.{course_good}
use Rattle.course_laws.proofs.Goods.{good_part}
use Rattle.course_laws.proofs.OwnCalls.{own_calls}
use Rattle.course_laws.proofs.Sorts.{does_all, falls_all, those}
use Rattle.course_laws.proofs.StatesLeft.{AreLeft, ArePast, IsFreed, IsLeft, IsNoStep, IsOther, IsPast, NoFree, all_at_one, course_at, falls_left, freed_on, good_keeps, keeps_on, kept_last, last_of, left_so, made_at, made_past, of_calls, one_or_not, others_on, past_left, split_last, stands_left, whole_left, why_bad}
use Rattle.course_laws.proofs.Triples.{keeping_are, own_restoring, restoring_are, saves, takes_in, triples_from}
use Rattle.course_laws.proofs.Unsaved.{course_stateless, fallen_stateless, made_stateless_on, never_held}

-- ---- lists

abbrev prefix_of : {A : Type 0} → List A → List A
prefix_of [] = []
prefix_of (x ∷ []) = []
prefix_of (x ∷ (y ∷ ys)) = x ∷ prefix_of (y ∷ ys)

prefix_is : {A : Type 0} (xs : List A) (x : A) → prefix_of (xs ++ x ∷ []) ≡ xs
prefix_is [] x = refl
prefix_is (y ∷ []) x = refl
prefix_is (y ∷ (z ∷ zs)) x = ap (λ (l : List _). y ∷ l) (prefix_is (z ∷ zs) x)

same_prefix : {A : Type 0} (xs ys : List A) (x y : A) → xs ++ x ∷ [] ≡ ys ++ y ∷ [] → xs ≡ ys
same_prefix xs ys x y e = sym (prefix_is xs x) ∙ ap prefix_of e ∙ prefix_is ys y

all_prefix : {A : Type 0} (P : A → Type 0) (xs ys : List A) → All P (xs ++ ys) → All P xs
all_prefix P [] ys all = All-nil P
all_prefix P (x ∷ xs) ys all = All-cons P x xs (All-head P x (xs ++ ys) all) (all_prefix P xs ys (All-tail P x (xs ++ ys) all))

all_back : {A : Type 0} (P : A → Type 0) (xs ys : List A) → All P (xs ++ ys) → All P ys
all_back P [] ys all = all
all_back P (x ∷ xs) ys all = all_back P xs ys (All-tail P x (xs ++ ys) all)

-- ---- a call that gives a state to hold, one that makes the state serve, and a Free

-- the first gives it where it is answered well, and it hasn't served since
pub record IsOpening (c : Call) : Type 0 where
  pub given : (s : Shape) (e : Exchange) (saved : Bool) → e.call ≡ c → IsGood s e → saved_by s e.call e.result saved ≡ true
  pub kept : (s : Shape) (e : Exchange) → e.call ≡ c → (why : Why) → IsWhy s why e → saved_by s e.call e.result false ≡ false
  pub unserved : (s : Shape) (e : Exchange) (stepped served : Bool) → e.call ≡ c → serves s e.call e.result stepped served ≡ false
  pub unstepped : (stepped : Bool) → steps c stepped ≡ false
  pub no_step : IsNoStep c
  pub no_free : c ≡ C.Free → ⊥

-- the second leaves it, and tells whether it has served by its answer
pub record IsServing (c : Call) : Type 0 where
  pub leaves : (s : Shape) (e : Exchange) (saved : Bool) → e.call ≡ c → saved_by s e.call e.result saved ≡ saved
  pub served : (s : Shape) (e : Exchange) (served : Bool) → e.call ≡ c → serves s e.call e.result false served ≡ is_good s c e.result
  pub unstepped : steps c false ≡ false
  pub no_step : IsNoStep c
  pub no_free : c ≡ C.Free → ⊥

good_is : (s : Shape) (c : Call) (e : Exchange) → e.call ≡ c → IsGood s e → is_good s c e.result ≡ true
good_is s c e is good = by e.result (subst (λ (d : Call). MatchResult e.result (λ reply. grade_of s d reply ≡ G.Good) (λ fault. ⊥)) is good) where
  by : (r : Result Reply PeerFault) → MatchResult r (λ reply. grade_of s c reply ≡ G.Good) (λ fault. ⊥) → is_good s c r ≡ true
  by (Ok reply) g = ap (λ (z : Grade). if_good z false) g
  by (Err fault) g = absurd g

not_good : (g : Grade) → (g ≡ G.Good → ⊥) → if_good g false ≡ false
not_good G.Good never = absurd (never refl)
not_good G.Refused never = refl
not_good G.Misreply never = refl

bad_is : (s : Shape) (c : Call) (e : Exchange) (why : Why) → e.call ≡ c → IsWhy s why e → is_good s c e.result ≡ false
bad_is s c e why is bad = by e.result (λ good. why_bad s why e bad (subst (λ (d : Call). MatchResult e.result (λ reply. grade_of s d reply ≡ G.Good) (λ fault. ⊥)) (sym is) good)) where
  by : (r : Result Reply PeerFault) → (MatchResult r (λ reply. grade_of s c reply ≡ G.Good) (λ fault. ⊥) → ⊥) → is_good s c r ≡ false
  by (Ok reply) never = not_good (grade_of s c reply) never
  by (Err fault) never = refl

-- what is held after a call that a good answer gives one
abbrev by_answer : (s : Shape) (c : Call) (r : Result Reply PeerFault) (saved : Bool) → Bool
by_answer s c (Ok reply) saved = if_good (grade_of s c reply) saved
by_answer s c (Err fault) saved = saved

answer_good : (s : Shape) (c : Call) (e : Exchange) (saved : Bool) → e.call ≡ c → IsGood s e → by_answer s c e.result saved ≡ true
answer_good s c e saved is good = by e.result (subst (λ (d : Call). MatchResult e.result (λ reply. grade_of s d reply ≡ G.Good) (λ fault. ⊥)) is good) where
  by : (r : Result Reply PeerFault) → MatchResult r (λ reply. grade_of s c reply ≡ G.Good) (λ fault. ⊥) → by_answer s c r saved ≡ true
  by (Ok reply) g = ap (λ (z : Grade). if_good z saved) g
  by (Err fault) g = absurd g

answer_bad : (s : Shape) (c : Call) (e : Exchange) (why : Why) → e.call ≡ c → IsWhy s why e → by_answer s c e.result false ≡ false
answer_bad s c e why is bad = by e.result (λ good. why_bad s why e bad (subst (λ (d : Call). MatchResult e.result (λ reply. grade_of s d reply ≡ G.Good) (λ fault. ⊥)) (sym is) good)) where
  by : (r : Result Reply PeerFault) → (MatchResult r (λ reply. grade_of s c reply ≡ G.Good) (λ fault. ⊥) → ⊥) → by_answer s c r false ≡ false
  by (Ok reply) never = not_good (grade_of s c reply) never
  by (Err fault) never = refl

saved_save : (s : Shape) (r : Result Reply PeerFault) (saved : Bool) → saved_by s C.Save r saved ≡ by_answer s C.Save r saved
saved_save s (Ok reply) saved = refl
saved_save s (Err fault) saved = refl

saved_take : (s : Shape) (size point stop : ℕ) (r : Result Reply PeerFault) (saved : Bool) → saved_by s (C.Deserialize size point stop) r saved ≡ by_answer s (C.Deserialize size point stop) r saved
saved_take s size point stop (Ok reply) saved = refl
saved_take s size point stop (Err fault) saved = refl

save_opens : IsOpening C.Save
save_opens = record {
  given = λ s e saved is good. ap (λ (c : Call). saved_by s c e.result saved) is ∙ saved_save s e.result saved ∙ answer_good s C.Save e saved is good;
  kept = λ s e is why bad. ap (λ (c : Call). saved_by s c e.result false) is ∙ saved_save s e.result false ∙ answer_bad s C.Save e why is bad;
  unserved = λ s e stepped served is. ap (λ (c : Call). serves s c e.result stepped served) is;
  unstepped = λ stepped. refl;
  no_step = tt;
  no_free = λ e. absurd (cc);
}

take_opens : (size point stop : ℕ) → IsOpening (C.Deserialize size point stop)
take_opens size point stop = record {
  given = λ s e saved is good. ap (λ (c : Call). saved_by s c e.result saved) is ∙ saved_take s size point stop e.result saved ∙ answer_good s (C.Deserialize size point stop) e saved is good;
  kept = λ s e is why bad. ap (λ (c : Call). saved_by s c e.result false) is ∙ saved_take s size point stop e.result false ∙ answer_bad s (C.Deserialize size point stop) e why is bad;
  unserved = λ s e stepped served is. ap (λ (c : Call). serves s c e.result stepped served) is;
  unstepped = λ stepped. refl;
  no_step = tt;
  no_free = λ e. absurd (cc);
}

pack_serves : IsServing C.Serialize
pack_serves = record {
  leaves = λ s e saved is. ap (λ (c : Call). saved_by s c e.result saved) is;
  served = λ s e served is. ap (λ (c : Call). serves s c e.result false served) is;
  unstepped = refl;
  no_step = tt;
  no_free = λ e. absurd (cc);
}

back_serves : IsServing C.Restore
back_serves = record {
  leaves = λ s e saved is. ap (λ (c : Call). saved_by s c e.result saved) is;
  served = λ s e served is. ap (λ (c : Call). serves s c e.result false served) is;
  unstepped = refl;
  no_step = tt;
  no_free = λ e. absurd (cc);
}

-- ---- one exchange more

module _ (system : System) where
  abbrev ss : List Shape
  ss = shapes_of system

  abbrev n : ℕ
  n = length system.components

  module _ (log : List Sent) (x : Sent) where
    abbrev longer : List Sent
    longer = log ++ x ∷ []

    one_here : (k : ℕ) → x.component ≡ k → part k (x ∷ []) ≡ x.exchange ∷ []
    one_here k is = takes (x.component == k) x.exchange [] (same x.component k is)

    one_away : (k : ℕ) → x.component ≢ k → part k (x ∷ []) ≡ []
    one_away k is = skips (x.component == k) x.exchange [] (other x.component k is)

    here : (k : ℕ) → x.component ≡ k → part k longer ≡ part k log ++ x.exchange ∷ []
    here k is = part_append k log (x ∷ []) ∙ ap (λ (es : List Exchange). part k log ++ es) (one_here k is)

    away : (k : ℕ) → x.component ≢ k → part k longer ≡ part k log
    away k is = part_append k log (x ∷ []) ∙ ap (λ (es : List Exchange). part k log ++ es) (one_away k is) ∙ append-nil (part k log)

    -- it is no step
    module _ (still : IsNoStep x.exchange.call) where
      one_still : (i : ℕ) → i < n → All IsNoStep (calls_in (part i (x ∷ [])))
      one_still i w = by (x.component == i) where
        by : (b : Bool) → All IsNoStep (calls_in (if b then x.exchange ∷ [] else []))
        by true = All-cons IsNoStep x.exchange.call [] still (All-nil IsNoStep)
        by false = All-nil IsNoStep

      -- the others stay as they were
      past_away : (k : ℕ) (d : Shape) → x.component ≢ k → IsPast system log k d → IsPast system longer k d
      past_away k d is past = record {
        unheld = ap (saved_after (get_or ss k d) false) (away k is) ∙ past.unheld;
        freed = freed_on system log (x ∷ []) k d (subst NoFree (sym (one_away k is)) (All-nil (λ (e : Exchange). e.call ≡ C.Free → ⊥))) one_still past.freed;
      }

      freed_here : (k : ℕ) (d : Shape) → x.component ≡ k → (x.exchange.call ≡ C.Free → ⊥) → IsFreed system log k d → IsFreed system longer k d
      freed_here k d is other freed =
          freed_on system log (x ∷ []) k d
          (subst NoFree (sym (one_here k is)) (All-cons (λ (e : Exchange). e.call ≡ C.Free → ⊥) x.exchange [] other (All-nil (λ (e : Exchange). e.call ≡ C.Free → ⊥)))) one_still freed

  same_or_not : {X : Type 0} (i k : ℕ) → (i ≡ k → X) → (i ≢ k → X) → X
  same_or_not {X} i k same other = by (i == k) refl where
    equal : (a b : ℕ) → (a == b) ≡ true → a ≡ b
    equal a b q = grind (arith, nat_tests)

    unequal : (a b : ℕ) → (a == b) ≡ false → a ≢ b
    unequal a b q = grind (arith, nat_tests)

    by : (b : Bool) → (i == k) ≡ b → X
    by true h = same (equal i k h)
    by false h = other (unequal i k h)

  -- one instance holds a state, which has served or hasn't, and the others none
  record IsHolding (i : ℕ) (served : Bool) (log : List Sent) : Type 0 where
    held : (d : Shape) → saved_after (get_or ss i d) false (part i log) ≡ true
    served_is : (d : Shape) → has_served (get_or ss i d) false false (part i log) ≡ served
    unstepped : has_stepped false (part i log) ≡ false
    freed : (d : Shape) → IsFreed system log i d
    others : (k : ℕ) (d : Shape) → i ≢ k → k < n → IsPast system log k d

  module _ (log : List Sent) (x : Sent) (c : Call) (call : x.exchange.call ≡ c) where
    abbrev i : ℕ
    i = x.component

    abbrev e : Exchange
    e = x.exchange

    saved_here : (d : Shape) → saved_after (get_or ss i d) false (part i (log ++ x ∷ [])) ≡ saved_by (get_or ss i d) e.call e.result (saved_after (get_or ss i d) false (part i log))
    saved_here d = ap (saved_after (get_or ss i d) false) (here log x i refl) ∙ saved_on (get_or ss i d) false (part i log) (e ∷ [])

    served_here : (d : Shape) → has_served (get_or ss i d) false false (part i (log ++ x ∷ [])) ≡ serves (get_or ss i d) e.call e.result (has_stepped false (part i log)) (has_served (get_or ss i d) false false (part i log))
    served_here d = ap (has_served (get_or ss i d) false false) (here log x i refl) ∙ served_on (get_or ss i d) false false (part i log) (e ∷ [])

    stepped_here : has_stepped false (part i (log ++ x ∷ [])) ≡ steps c (has_stepped false (part i log))
    stepped_here = ap (has_stepped false) (here log x i refl) ∙ stepped_on false (part i log) (e ∷ []) ∙ ap (λ (z : Call). steps z (has_stepped false (part i log))) call

    -- the first of the three
    module _ (opens : IsOpening c) (past : ArePast system log) (inside : i < n) where
      still_open : IsNoStep e.call
      still_open = subst IsNoStep (sym call) opens.no_step

      no_free_open : e.call ≡ C.Free → ⊥
      no_free_open frees = opens.no_free (sym call ∙ frees)

      opened : IsGoodOf ss x → IsHolding i false (log ++ x ∷ [])
      opened good = record {
        held = λ d. saved_here d ∙ opens.given (get_or ss i d) e _ call (good d);
        served_is = λ d. served_here d ∙ opens.unserved (get_or ss i d) e _ _ call;
        unstepped = stepped_here ∙ opens.unstepped _;
        freed = λ d. freed_here log x still_open i d refl no_free_open (past i d inside).freed;
        others = λ k d away within. past_away log x still_open k d away (past k d within);
      }

      -- with a bad answer none is held
      unopened : (why : Why) → ((d : Shape) → IsWhy (get_or ss i d) why e) → ArePast system (log ++ x ∷ [])
      unopened why bad k d w = same_or_not i k
          (λ is. subst (λ (j : ℕ). IsPast system (log ++ x ∷ []) j d) is (record {
            unheld = saved_here d ∙ ap (saved_by (get_or ss i d) e.call e.result) (past i d inside).unheld ∙ opens.kept (get_or ss i d) e call why (bad d);
            freed = freed_here log x still_open i d refl no_free_open (past i d inside).freed;
          }))
          (λ away. past_away log x still_open k d away (past k d w))

    -- the second
    module _ (uses : IsServing c) (holding : IsHolding i false log) where
      still_use : IsNoStep e.call
      still_use = subst IsNoStep (sym call) uses.no_step

      no_free_use : e.call ≡ C.Free → ⊥
      no_free_use frees = uses.no_free (sym call ∙ frees)

      served_by : (d : Shape) → has_served (get_or ss i d) false false (part i (log ++ x ∷ [])) ≡ is_good (get_or ss i d) c e.result
      served_by d =
          served_here d ∙ ap (λ (b : Bool). serves (get_or ss i d) e.call e.result b (has_served (get_or ss i d) false false (part i log))) holding.unstepped
          ∙ uses.served (get_or ss i d) e _ call

      unstepped_use : has_stepped false (part i (log ++ x ∷ [])) ≡ false
      unstepped_use = stepped_here ∙ ap (steps c) holding.unstepped ∙ uses.unstepped

      used : IsGoodOf ss x → IsHolding i true (log ++ x ∷ [])
      used good = record {
        held = λ d. saved_here d ∙ uses.leaves (get_or ss i d) e _ call ∙ holding.held d;
        served_is = λ d. served_by d ∙ good_is (get_or ss i d) c e call (good d);
        unstepped = unstepped_use;
        freed = λ d. freed_here log x still_use i d refl no_free_use (holding.freed d);
        others = λ k d away within. past_away log x still_use k d away (holding.others k d away within);
      }

      -- with a bad answer it hasn't served
      unused : (why : Why) → ((d : Shape) → IsWhy (get_or ss i d) why e) → AreLeft system (log ++ x ∷ [])
      unused why bad k d w = same_or_not i k
          (λ is. subst (λ (j : ℕ). IsLeft system (log ++ x ∷ []) j d) is (record {
            held = λ h. (served_by d ∙ bad_is (get_or ss i d) c e why call (bad d), inr unstepped_use);
            freed = freed_here log x still_use i d refl no_free_use (holding.freed d);
          }))
          (λ away. let p = past_away log x still_use k d away (holding.others k d away w) in record {
            held = λ h. absurd (let wrong : true ≡ false = sym h ∙ p.unheld in cc);
            freed = p.freed;
          })

  -- and the Free, whatever is answered
  module _ (log : List Sent) (x : Sent) (call : x.exchange.call ≡ C.Free) (holding : IsHolding x.component true log) where
    still_free : IsNoStep x.exchange.call
    still_free = subst IsNoStep (sym call) tt

    freed_now : ArePast system (log ++ x ∷ [])
    freed_now k d w = same_or_not x.component k
        (λ is. subst (λ (j : ℕ). IsPast system (log ++ x ∷ []) j d) is (record {
          unheld = saved_here log x C.Free call d ∙ ap (λ (c : Call). saved_by (get_or ss x.component d) c x.exchange.result (saved_after (get_or ss x.component d) false (part x.component log))) call;
          freed = λ prefix e last frees.
              inl (ap (has_served (get_or ss x.component d) false false) (sym (same_prefix (part x.component log) prefix x.exchange e (sym (here log x x.component refl) ∙ last))) ∙ holding.served_is d);
        }))
        (λ away. past_away log x still_free k d away (holding.others k d away w))

  -- ---- three calls to each

  module _ {X : Type 0} (f : X → Call) (g : Call) (opens : (x : X) → IsOpening (f x)) (uses : IsServing g) where
    abbrev three : ℕ → List X → List ComponentCall
    three i xs = triples_from i f g C.Free xs

    -- a call of a list is that of an exchange
    record IsNext (i : ℕ) (c : Call) (rest : List ComponentCall) (x : Sent) (tail : List ComponentCall) : Type 0 where
      component : x.component ≡ i
      call : x.exchange.call ≡ c
      more : rest ≡ tail

    next_is : (i : ℕ) (c : Call) (rest : List ComponentCall) (x : Sent) (tail : List ComponentCall) → record { component = i; call = c } ∷ rest ≡ component_call x ∷ tail → IsNext i c rest x tail
    next_is i c rest x tail is =
        let first = first_same (record { component = i; call = c }) (component_call x) rest tail is in
        record { component = sym (ap (λ (a : ComponentCall). a.component) first); call = sym (ap (λ (a : ComponentCall). a.call) first); more = rest_same (record { component = i; call = c }) (component_call x) rest tail is }

    -- after the three of one component
    first_held : (i : ℕ) (x : X) → i < n → (before : List Sent) → ArePast system before → (a : Sent) → a.component ≡ i → a.exchange.call ≡ f x → IsGoodOf ss a → IsHolding i false (before ++ a ∷ [])
    first_held i x inside before past a ai ac good =
        subst (λ (k : ℕ). IsHolding k false (before ++ a ∷ [])) ai (opened before a (f x) ac (opens x) past (subst (λ (k : ℕ). k < n) (sym ai) inside) good)

    module _ (i : ℕ) (x : X) (inside : i < n) (before : List Sent) (past : ArePast system before) (a b z : Sent) (ai : a.component ≡ i) (ac : a.exchange.call ≡ f x) (bi : b.component ≡ i) (bc : b.exchange.call ≡ g) (zi : z.component ≡ i) (zc : z.exchange.call ≡ C.Free) where
      second_held : IsGoodOf ss a → IsGoodOf ss b → IsHolding i true ((before ++ a ∷ []) ++ b ∷ [])
      second_held ga gb =
          subst (λ (k : ℕ). IsHolding k true ((before ++ a ∷ []) ++ b ∷ [])) bi
          (used (before ++ a ∷ []) b g bc uses (subst (λ (k : ℕ). IsHolding k false (before ++ a ∷ [])) (sym bi) (first_held i x inside before past a ai ac ga)) gb)

      third_past : IsGoodOf ss a → IsGoodOf ss b → ArePast system (((before ++ a ∷ []) ++ b ∷ []) ++ z ∷ [])
      third_past ga gb = freed_now ((before ++ a ∷ []) ++ b ∷ []) z zc (subst (λ (k : ℕ). IsHolding k true ((before ++ a ∷ []) ++ b ∷ [])) (sym zi) (second_held ga gb))

    three_on : (before : List Sent) (a b z : Sent) (log : List Sent) → (((before ++ a ∷ []) ++ b ∷ []) ++ z ∷ []) ++ log ≡ before ++ a ∷ b ∷ z ∷ log
    three_on before a b z log =
        append_assoc ((before ++ a ∷ []) ++ b ∷ []) (z ∷ []) log ∙ append_assoc (before ++ a ∷ []) (b ∷ []) (z ∷ log) ∙ append_assoc before (a ∷ []) (b ∷ z ∷ log)

    -- where all are answered well
    all_past : (i : ℕ) (xs : List X) (before log : List Sent) → i + length xs ≡ n → ArePast system before → three i xs ≡ component_calls log → All (IsGoodOf ss) log → ArePast system (before ++ log)
    all_past i [] before [] w past is good = subst (ArePast system) (sym (append-nil before)) past
    all_past i [] before (a ∷ log) w past is good = absurd (cc)
    all_past i (x ∷ xs) before [] w past is good = absurd (cc)
    all_past i (x ∷ xs) before (a ∷ []) w past is good = absurd (cc)
    all_past i (x ∷ xs) before (a ∷ (b ∷ [])) w past is good = absurd (cc)
    all_past i (x ∷ xs) before (a ∷ (b ∷ (z ∷ log))) w past is good =
        let p = next_is i (f x) _ a (component_calls (b ∷ z ∷ log)) is in
        let q = next_is i g _ b (component_calls (z ∷ log)) p.more in
        let r = next_is i C.Free _ z (component_calls log) q.more in
        let G = IsGoodOf ss in
        let tail = All-tail G a (b ∷ z ∷ log) good in
        let there = third_past i x (omega (arith, w)) before past a b z p.component p.call q.component q.call r.component r.call (All-head G a (b ∷ z ∷ log) good) (All-head G b (z ∷ log) tail) in
        subst (ArePast system) (three_on before a b z log) (all_past (i + 1) xs (((before ++ a ∷ []) ++ b ∷ []) ++ z ∷ []) log (omega (arith, w)) there r.more (All-tail G z log (All-tail G b (z ∷ log) tail)))

    -- or the last of a prefix isn't
    short_left : (i : ℕ) (xs : List X) (bad : BadAnswer) (before prefix : List Sent) (last : Sent) (left : List ComponentCall) → i + length xs ≡ n → ArePast system before → three i xs ≡ component_calls (prefix ++ last ∷ []) ++ left → IsFirst ss bad prefix last → AreLeft system (before ++ (prefix ++ last ∷ []))
    short_left i [] bad before [] last left w past is first = absurd (cc)
    short_left i [] bad before (a ∷ prefix) last left w past is first = absurd (cc)
    short_left i (x ∷ xs) bad before [] last left w past is first =
        let p = next_is i (f x) _ last left is in
        let at = p.component in
        past_left system (before ++ last ∷ []) (unopened before last (f x) p.call (opens x) past (omega (arith, at, w)) bad.why first.why)
    short_left i (x ∷ xs) bad before (a ∷ []) last left w past is first =
        let p = next_is i (f x) _ a (component_call last ∷ left) is in
        let q = next_is i g _ last left p.more in
        let held = first_held i x (omega (arith, w)) before past a p.component p.call (All-head (IsGoodOf ss) a [] first.good) in
        subst (AreLeft system) (append_assoc before (a ∷ []) (last ∷ []))
        (unused (before ++ a ∷ []) last g q.call uses (subst (λ (k : ℕ). IsHolding k false (before ++ a ∷ [])) (sym q.component) held) bad.why first.why)
    short_left i (x ∷ xs) bad before (a ∷ (b ∷ [])) last left w past is first =
        let G = IsGoodOf ss in
        let p = next_is i (f x) _ a (component_call b ∷ component_call last ∷ left) is in
        let q = next_is i g _ b (component_call last ∷ left) p.more in
        let r = next_is i C.Free _ last left q.more in
        let there = third_past i x (omega (arith, w)) before past a b last p.component p.call q.component q.call r.component r.call (All-head G a (b ∷ []) first.good) (All-head G b [] (All-tail G a (b ∷ []) first.good)) in
        subst (AreLeft system) (append_assoc (before ++ a ∷ []) (b ∷ []) (last ∷ []) ∙ append_assoc before (a ∷ []) (b ∷ last ∷ [])) (past_left system _ there)
    short_left i (x ∷ xs) bad before (a ∷ (b ∷ (z ∷ prefix))) last left w past is first =
        let G = IsGoodOf ss in
        let p = next_is i (f x) _ a (component_calls (b ∷ z ∷ (prefix ++ last ∷ [])) ++ left) is in
        let q = next_is i g _ b (component_calls (z ∷ (prefix ++ last ∷ [])) ++ left) p.more in
        let r = next_is i C.Free _ z (component_calls (prefix ++ last ∷ []) ++ left) q.more in
        let tail = All-tail G a (b ∷ z ∷ prefix) first.good in
        let there = third_past i x (omega (arith, w)) before past a b z p.component p.call q.component q.call r.component r.call (All-head G a (b ∷ z ∷ prefix) first.good) (All-head G b (z ∷ prefix) tail) in
        subst (AreLeft system) (three_on before a b z (prefix ++ last ∷ []))
        (short_left (i + 1) xs bad (((before ++ a ∷ []) ++ b ∷ []) ++ z ∷ []) prefix last left (omega (arith, w)) there r.more
        (record { good = All-tail G z prefix (All-tail G b (z ∷ prefix) tail); component = first.component; why = first.why }))

  -- ---- talks

  module _ (log : List Sent) (talks : List Talk) (ends : EndAs system log talks) (k : ℕ) (d : Shape) (w : k < n) where
    -- where all answers are good
    good_end : ArePast system log → All (IsGoodOf ss) log → LeavesState talks (get_or ss k d) (part k log)
    good_end past good =
        left_so system log talks ends (past_left system log past) k d w (λ f rest e is given. kept_last (part k log) f rest e (good_keeps system log good k d) is given)

    -- where all but the last are
    bad_end : (prefix : List Sent) (last : Sent) → log ≡ prefix ++ last ∷ [] → AreLeft system log → All (IsGoodOf ss) prefix → LeavesState talks (get_or ss k d) (part k log)
    bad_end prefix last log_is left good =
        left_so system log talks ends left k d w
        (λ f rest e is given. last_of (part k prefix) (part k (last ∷ [])) f rest e (good_keeps system prefix good k d) short (sym (ap (part k) log_is ∙ part_append k prefix (last ∷ [])) ∙ is) given) where
          short : (part k (last ∷ []) ≡ []) ⊎ ((x : Exchange) × (part k (last ∷ []) ≡ x ∷ []))
          short = by (last.component == k) where
            by : (b : Bool) → ((if b then last.exchange ∷ [] else []) ≡ []) ⊎ ((x : Exchange) × ((if b then last.exchange ∷ [] else []) ≡ x ∷ []))
            by true = inr (last.exchange, refl)
            by false = inl refl

  -- ---- lists of calls in a row

  -- a log of two lists is a log of the one and one of the other
  record Halves (cs ds : List ComponentCall) (log : List Sent) : Type 0 where
    one : List Sent
    two : List Sent
    is : log ≡ one ++ two
    ones : component_calls one ≡ cs
    twos : component_calls two ≡ ds

  halves : (cs ds : List ComponentCall) (log : List Sent) → component_calls log ≡ cs ++ ds → Halves cs ds log
  halves [] ds log is = record { one = []; two = log; is = refl; ones = refl; twos = is }
  halves (a ∷ cs) ds [] is = absurd (cc)
  halves (a ∷ cs) ds (x ∷ log) is =
      let more = halves cs ds log (rest_same (component_call x) a (component_calls log) (cs ++ ds) is) in
      record { one = x ∷ more.one; two = more.two; is = ap (λ (l : List Sent). x ∷ l) more.is; ones = ap₂ ◌∷◌ (first_same (component_call x) a (component_calls log) (cs ++ ds) is) more.ones; twos = more.twos }

  -- calls that stop, stop in the one, or after it in the other
  data StopsIn (cs ds : List ComponentCall) (bad : BadAnswer) (log : List Sent) : Type 0 where
    InFirst : StopsAt ss cs bad log → StopsIn cs ds bad log
    InSecond : (one two : List Sent) → log ≡ one ++ two → IsAnswered ss cs one → StopsAt ss ds bad two → StopsIn cs ds bad log

  one_more : (a : ComponentCall) (cs ds : List ComponentCall) (bad : BadAnswer) (x : Sent) (log : List Sent) → component_call x ≡ a → IsGoodOf ss x → StopsIn cs ds bad log → StopsIn (a ∷ cs) ds bad (x ∷ log)
  one_more a cs ds bad x log is good (InFirst s) = InFirst (record {
    prefix = x ∷ s.prefix;
    last = s.last;
    left = s.left;
    log_is = ap (λ (l : List Sent). x ∷ l) s.log_is;
    calls_are = ap₂ ◌∷◌ (sym is) s.calls_are;
    first = record { good = All-cons (IsGoodOf ss) x s.prefix good s.first.good; component = s.first.component; why = s.first.why };
  })
  one_more a cs ds bad x log is good (InSecond one two log_is ones twos) =
      InSecond (x ∷ one) two (ap (λ (l : List Sent). x ∷ l) log_is) (record { calls_are = ap₂ ◌∷◌ is ones.calls_are; good = All-cons (IsGoodOf ss) x one good ones.good }) twos

  stops_in : (cs ds : List ComponentCall) (bad : BadAnswer) (prefix : List Sent) (last : Sent) (left : List ComponentCall) → cs ++ ds ≡ component_calls (prefix ++ last ∷ []) ++ left → IsFirst ss bad prefix last → StopsIn cs ds bad (prefix ++ last ∷ [])
  stops_in [] ds bad prefix last left is first =
      InSecond [] (prefix ++ last ∷ []) refl (record { calls_are = refl; good = All-nil (IsGoodOf ss) }) (record { prefix = prefix; last = last; left = left; log_is = refl; calls_are = is; first = first })
  stops_in (a ∷ cs) ds bad [] last left is first =
      InFirst (record { prefix = []; last = last; left = cs; log_is = refl; calls_are = ap (λ (x : ComponentCall). x ∷ cs) (first_same a (component_call last) (cs ++ ds) left is); first = first })
  stops_in (a ∷ cs) ds bad (x ∷ prefix) last left is first =
      one_more a cs ds bad x (prefix ++ last ∷ []) (sym (first_same a (component_call x) (cs ++ ds) (component_calls (prefix ++ last ∷ []) ++ left) is)) (All-head (IsGoodOf ss) x prefix first.good)
      (stops_in cs ds bad prefix last left (rest_same a (component_call x) (cs ++ ds) (component_calls (prefix ++ last ∷ []) ++ left) is)
      (record { good = All-tail (IsGoodOf ss) x prefix first.good; component = first.component; why = first.why }))

  -- ---- where the states are kept

  many : 0 + length ss ≡ n
  many = let same = length-map system.components (λ (c : Component). c.shape) in omega (arith, same)

  others_by : (before log : List Sent) → ArePast system before → ((k : ℕ) → All IsOther (own k (component_calls log))) → ArePast system (before ++ log)
  others_by before log past all = others_on system before log (λ k. subst (All IsOther) (sym (own_calls k log)) (all k)) past

  enters_other : (i : ℕ) → All IsOther (own i (entering_step system))
  enters_other = those system IsOther has_events (λ (shape : Shape). C.EnterStep) (λ s. tt)

  module _ (before kept : List Sent) (past : ArePast system before) (good : All (IsGoodOf ss) before) where
    entered_past : (one : List Sent) → IsAnswered ss (entering_step system) one → ArePast system (before ++ one)
    entered_past one a = others_by before one past (does_all system IsOther (Calls (entering_step system)) enters_other [] one a)

    kept_past : IsAnswered ss (holding system) kept → ArePast system (before ++ kept)
    kept_past answered =
        let h = halves (entering_step system) (keeping system) kept answered.calls_are in
        let parts = subst (All (IsGoodOf ss)) h.is answered.good in
        let first : ArePast system (before ++ h.one) = entered_past h.one (record { calls_are = h.ones; good = all_prefix (IsGoodOf ss) h.one h.two parts }) in
        subst (ArePast system) (append_assoc before h.one h.two ∙ ap (λ (l : List Sent). before ++ l) (sym h.is))
        (all_past saves C.Serialize (λ shape. save_opens) pack_serves 0 ss (before ++ h.one) h.two many first (sym (h.twos ∙ keeping_are system)) (all_back (IsGoodOf ss) h.one h.two parts))

    kept_left : (bad : BadAnswer) → StopsAt ss (holding system) bad kept → AreLeft system (before ++ kept)
    kept_left bad stops = by (subst (StopsIn (entering_step system) (keeping system) bad) (sym stops.log_is)
        (stops_in (entering_step system) (keeping system) bad stops.prefix stops.last stops.left (stops.calls_are ∙ ap (λ (l : List Sent). component_calls l ++ stops.left) stops.log_is) stops.first)) where
          by : StopsIn (entering_step system) (keeping system) bad kept → AreLeft system (before ++ kept)
          by (InFirst s) = past_left system (before ++ kept) (others_by before kept past (falls_all system IsOther (Calls (entering_step system)) enters_other bad kept s))
          by (InSecond one two is ones s) =
              subst (AreLeft system) (append_assoc before one two ∙ ap (λ (l : List Sent). before ++ l) (sym is))
              (subst (λ (l : List Sent). AreLeft system ((before ++ one) ++ l)) (sym s.log_is)
              (short_left saves C.Serialize (λ shape. save_opens) pack_serves 0 ss bad (before ++ one) s.prefix s.last s.left many (entered_past one ones)
              (sym (keeping_are system) ∙ s.calls_are ∙ ap (λ (l : List Sent). component_calls l ++ s.left) s.log_is) s.first))

  -- ---- where they are gone back to

  module _ (s : Spot) (stop : ℕ) (sizes : List ℕ) (may : MayBack system s sizes) (made back : List Sent) (past : ArePast system made) where
    all_there : 0 + length sizes ≡ n
    all_there = let same = may.each in omega (arith, same)

    restored_past : IsAnswered ss (restoring s.t stop sizes) back → ArePast system (made ++ back)
    restored_past answered =
        all_past (takes_in s.t stop) C.Restore (λ size. take_opens size s.t stop) back_serves 0 sizes made back all_there past (sym (answered.calls_are ∙ restoring_are s.t stop sizes)) answered.good

    restored_left : (bad : BadAnswer) → StopsAt ss (restoring s.t stop sizes) bad back → AreLeft system (made ++ back)
    restored_left bad stops =
        subst (λ (l : List Sent). AreLeft system (made ++ l)) (sym stops.log_is)
        (short_left (takes_in s.t stop) C.Restore (λ size. take_opens size s.t stop) back_serves 0 sizes bad made stops.prefix stops.last stops.left all_there past
        (sym (restoring_are s.t stop sizes) ∙ stops.calls_are ∙ ap (λ (l : List Sent). component_calls l ++ stops.left) stops.log_is) stops.first)

    -- a talk that ends there ends where the state has served
    module _ (answered : IsAnswered ss (restoring s.t stop sizes) back) (k : ℕ) (d : Shape) (w : k < n) where
      abbrev shape : Shape
      shape = get_or ss k d

      own_calls_are : (size : ℕ) × (calls_in (part k back) ≡ C.Deserialize size s.t stop ∷ C.Restore ∷ C.Free ∷ [])
      own_calls_are =
          let mine = own_restoring s.t stop sizes k (let m = may.each in omega (arith, m, w)) in
          (mine.0, own_calls k back ∙ ap (own k) answered.calls_are ∙ mine.1)

      served_by_two : (was : List Exchange) (es : List Exchange) (size : ℕ) → calls_in es ≡ C.Deserialize size s.t stop ∷ C.Restore ∷ C.Free ∷ [] → All (IsGood shape) es → (prefix : List Exchange) (e : Exchange) → was ++ es ≡ prefix ++ e ∷ [] → has_served shape false false prefix ≡ true
      served_by_two was (x ∷ (y ∷ (z ∷ []))) size calls good prefix e is =
          let xc : x.call ≡ C.Deserialize size s.t stop = first_same x.call (C.Deserialize size s.t stop) (y.call ∷ z.call ∷ []) (C.Restore ∷ C.Free ∷ []) calls in
          let yc : y.call ≡ C.Restore = first_same y.call C.Restore (z.call ∷ []) (C.Free ∷ []) (rest_same x.call (C.Deserialize size s.t stop) (y.call ∷ z.call ∷ []) (C.Restore ∷ C.Free ∷ []) calls) in
          let same : was ++ x ∷ y ∷ [] ≡ prefix = same_prefix (was ++ x ∷ y ∷ []) prefix z e (append_assoc was (x ∷ y ∷ []) (z ∷ []) ∙ is) in
          ap (has_served shape false false) (sym same) ∙ served_on shape false false was (x ∷ y ∷ [])
          ∙ ap (λ (c : Call). serves shape y.call y.result (steps c (has_stepped false was)) (serves shape c x.result (has_stepped false was) (has_served shape false false was))) xc
          ∙ ap (λ (c : Call). serves shape c y.result false false) yc
          ∙ good_is shape C.Restore y yc (All-head (IsGood shape) y (z ∷ []) (All-tail (IsGood shape) x (y ∷ z ∷ []) good))
      served_by_two was [] size calls good prefix e is = absurd (cc)
      served_by_two was (x ∷ []) size calls good prefix e is = absurd (cc)
      served_by_two was (x ∷ (y ∷ [])) size calls good prefix e is = absurd (cc)
      served_by_two was (x ∷ (y ∷ (z ∷ (u ∷ es)))) size calls good prefix e is = absurd (cc)

      served_back : (prefix : List Exchange) (e : Exchange) → part k (made ++ back) ≡ prefix ++ e ∷ [] → has_served shape false false prefix ≡ true
      served_back prefix e is = served_by_two (part k made) (part k back) own_calls_are.0 own_calls_are.1 (good_part ss back answered.good k d) prefix e (sym (part_append k made back) ∙ is)

      -- after which no state is saved any more
      back_leaves : (more : List Sent) → All (IsGoodOf ss) made → ((i : ℕ) → All IsStateless (own i (component_calls more))) → (talks : List Talk) → LeavesState talks shape (part k ((made ++ back) ++ more))
      back_leaves more good plain talks = record {
        held = λ held. absurd (let wrong : true ≡ false = sym held ∙ ap (saved_after shape false) (part_append k (made ++ back) more) ∙ saved_on shape false (part k (made ++ back)) (part k more)
            ∙ ap (λ (b : Bool). saved_after shape b (part k more)) (restored_past answered k d w).unheld ∙ never_held shape (part k more) calls in cc);
        freed = λ prefix e is frees. inl (by prefix e (split_last (part k (made ++ back)) (part k more) prefix e (sym (part_append k (made ++ back) more) ∙ is)) is frees);
        last = λ f rest e is given. kept_last (part k ((made ++ back) ++ more)) f rest e (keeps_on system (made ++ back) more (All-append (IsGoodOf ss) made back good answered.good) k d none) is given;
      } where
        calls : All IsStateless (calls_in (part k more))
        calls = subst (All IsStateless) (sym (own_calls k more)) (plain k)

        none : NoFree (part k more)
        none = λ j x v frees. subst IsStateless frees (of_calls IsStateless (part k more) calls j x v)

        by : (prefix : List Exchange) (e : Exchange) → (part k more ≡ []) ⊎ ((rest : List Exchange) × (part k more ≡ rest ++ e ∷ [])) → part k ((made ++ back) ++ more) ≡ prefix ++ e ∷ [] → e.call ≡ C.Free → has_served shape false false prefix ≡ true
        by prefix e (inl empty) is frees = served_back prefix e (sym (append-nil (part k (made ++ back))) ∙ ap (λ (es : List Exchange). part k (made ++ back) ++ es) (sym empty) ∙ sym (part_append k (made ++ back) more) ∙ is)
        by prefix e (inr (rest, last)) is frees = absurd (all_at_one (λ (x : Exchange). x.call ≡ C.Free → ⊥) rest [] e (subst NoFree last none) frees)

-- ---- each run

module _ (system : System) (sound : IsSound system) where
  -- at a point that is done no state is held
  seen_past : (bound : Bound) (plan : Plan) (binds : BindsParameters system bound) (s : Spot) (made prefix : List Sent) (is : List Instant) → IsAnswered (shapes_of system) (making plan.link system) made → CourseIn system bound plan Whole (InstantDone s false false) prefix is → ArePast system (made ++ prefix)
  seen_past bound plan binds s made prefix is answered course =
      one_or_not (early_count (shapes_of system))
      (λ one. stateless_past (made ++ prefix) (made_stateless_on system sound (omega (arith, one)) bound plan binds (InstantDone s false false) made prefix is answered course))
      (λ several. (course_at system sound bound plan binds several Whole made (made_at system sound bound plan binds several made answered) (InstantDone s false false) prefix is course).before) where
        stateless_past : (log : List Sent) → ((i : ℕ) → All IsStateless (own i (component_calls log))) → ArePast system log
        stateless_past log all k d w =
            let calls : All IsStateless (calls_in (part k log)) = subst (All IsStateless) (sym (own_calls k log)) (all k) in
            record {
              unheld = never_held (get_or (shapes_of system) k d) (part k log) calls;
              freed = λ prefix e last frees. absurd (all_at_one (λ (x : Exchange). x.call ≡ C.Free → ⊥) prefix [] e
                  (subst NoFree last (λ j x v f. subst IsStateless f (of_calls IsStateless (part k log) calls j x v))) frees);
            }

  seen_good : (bound : Bound) (plan : Plan) (binds : BindsParameters system bound) (s : Spot) (made prefix : List Sent) (is : List Instant) → IsAnswered (shapes_of system) (making plan.link system) made → CourseIn system bound plan Whole (InstantDone s false false) prefix is → All (IsGoodOf (shapes_of system)) (made ++ prefix)
  seen_good bound plan binds s made prefix is answered course =
      All-append (IsGoodOf (shapes_of system)) made prefix answered.good (course_good system bound plan sound binds Whole (InstantDone s false false) prefix is course)

pub states_are_left : StatesAreLeft
states_are_left system _ _ talks sound (Wholly bad log comes) ends k d w = whole_left system sound bad log comes talks ends k d w
states_are_left system _ _ talks sound (Holding bound plan s made prefix kept is binds counts answered course keeps) ends k d w =
    let before = made ++ prefix in
    let past = seen_past system sound bound plan binds s made prefix is answered course in
    let good = seen_good system sound bound plan binds s made prefix is answered course in
    subst (λ (l : List Sent). LeavesState talks (get_or (shapes_of system) k d) (part k l)) (append_assoc made prefix kept)
    (good_end system (before ++ kept) talks (subst (λ (l : List Sent). EndAs system l talks) (sym (append_assoc made prefix kept)) ends) k d w
    (kept_past system before kept past good keeps) (All-append (IsGoodOf (shapes_of system)) before kept good keeps.good))
states_are_left system _ _ talks sound (HoldingBadly bound plan s bad made prefix kept is binds counts answered course stops) ends k d w =
    let before = made ++ prefix in
    let past = seen_past system sound bound plan binds s made prefix is answered course in
    let good = seen_good system sound bound plan binds s made prefix is answered course in
    subst (λ (l : List Sent). LeavesState talks (get_or (shapes_of system) k d) (part k l)) (append_assoc made prefix kept)
    (bad_end system (before ++ kept) talks (subst (λ (l : List Sent). EndAs system l talks) (sym (append_assoc made prefix kept)) ends) k d w
    (before ++ stops.prefix) stops.last (ap (λ (l : List Sent). before ++ l) stops.log_is ∙ sym (append_assoc before stops.prefix (stops.last ∷ [])))
    (kept_left system before kept past good bad stops) (All-append (IsGoodOf (shapes_of system)) before stops.prefix good stops.first.good))
states_are_left system _ _ talks sound (BackBadly bound plan s sizes bad made back binds counts may answered stops) ends k d w =
    bad_end system (made ++ back) talks ends k d w
    (made ++ stops.prefix) stops.last (ap (λ (l : List Sent). made ++ l) stops.log_is ∙ sym (append_assoc made stops.prefix (stops.last ∷ [])))
    (restored_left system s plan.stop sizes may made back (made_past system plan.link made answered.calls_are) bad stops) (All-append (IsGoodOf (shapes_of system)) made stops.prefix answered.good stops.first.good)
states_are_left system _ _ talks sound (BackStands bound plan s sizes p made back log is binds counts may answered went course halts) ends k d w =
    let past = made_past system plan.link made answered.calls_are in
    subst (λ (l : List Sent). LeavesState talks (get_or (shapes_of system) k d) (part k l)) (append_assoc made back log)
    (one_or_not (early_count (shapes_of system))
    (λ one. back_leaves system s plan.stop sizes may made back past went k d w log answered.good (course_stateless system sound (omega (arith, one)) bound plan binds (FromHeld s) p log is tt course).1 talks)
    (λ several.
    stands_left system sound bound plan binds several (FromHeld s) (made ++ back)
    (record { later = tt; before = restored_past system s plan.stop sizes may made back past went; good = All-append (IsGoodOf (shapes_of system)) made back answered.good went.good })
    p log is course halts talks (subst (λ (l : List Sent). EndAs system l talks) (sym (append_assoc made back log)) ends) k d w))
states_are_left system _ _ talks sound (BackFalling bound plan s sizes p bad made back prefix more is binds counts may answered went course falls) ends k d w =
    let past = made_past system plan.link made answered.calls_are in
    subst (λ (l : List Sent). LeavesState talks (get_or (shapes_of system) k d) (part k l)) (append_assoc made back (prefix ++ more))
    (one_or_not (early_count (shapes_of system))
    (λ one. back_leaves system s plan.stop sizes may made back past went k d w (prefix ++ more) answered.good (fallen_stateless system sound (omega (arith, one)) bound plan binds (FromHeld s) p bad prefix more is tt course falls) talks)
    (λ several.
    falls_left system sound bound plan binds several (FromHeld s) (made ++ back)
    (record { later = tt; before = restored_past system s plan.stop sizes may made back past went; good = All-append (IsGoodOf (shapes_of system)) made back answered.good went.good })
    p bad prefix more is course falls talks (subst (λ (l : List Sent). EndAs system l talks) (sym (append_assoc made back (prefix ++ more))) ends) k d w))
