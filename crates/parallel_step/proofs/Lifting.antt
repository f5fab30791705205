-- A round over slots is a round over a log.
use Rattle.std.proofs.Common.{◌≡◌, ◌≢◌, ℕ, zero, suc, ◌+◌, ◌<◌, ◌==◌, Bool, List, [], ◌∷◌, ◌++◌, Option, Some, None, Result, Ok, Err, refl, sym, ap, ap₂, ◌∙◌, subst, arith, length, get_or, map}
use Rattle.std.specs.Prelude.{All, MatchOption}
use Rattle.std.proofs.lemmas.List.{length-map}
use Rattle.std.proofs.lemmas.List.Elements.{All-nil, All-cons}
use Rattle.value_types.specs.declared.shape.Shape.{Shape}
use Rattle.fmi_calls.specs.declared.call.Call.{Call}
use Rattle.fmu_peer.specs.declared.ended.Why.{Why}
use Rattle.fmu_peer.specs.declared.peer.Peer.{Ghosts}
use Rattle.fmu_peer.specs.declared.peer.Exchange.{Exchange}
use Rattle.fmu_peer.specs.Answer.{IsWhy}
use Rattle.fmu_peer.specs.CloseAll.{Instance, instance_in}
use Rattle.fmu_peer.specs.Talk.{IsGood}
use Rattle.fmu_peer.specs.View.{View}
use Rattle.slot_calls.specs.Carried.{asks_to_end}
use Rattle.slot_calls.specs.Log.{ComponentCall, Has, One, Sent, Worth, component_calls, part}
use Rattle.slot_calls.specs.Stage.{IsGoodOf}
use Rattle.slot_calls.specs.declared.bad_answer.BadAnswer.{BadAnswer}
use Rattle.slot_calls.specs.Slots.{instances}
use Rattle.slot_calls.specs.Stage.{shapes}
use Rattle.slot_calls.proofs.CallerLemmas.{has_none, other, same, skips, takes}
use Rattle.fmu_peer.specs.declared.slot.Slot.{Slot}
use Rattle.parallel_step.specs.Lifted.{AllSent, IsOwn, Lifted, ask_of, bad_from, bad_of, bad_or, jobs_from}
use Rattle.parallel_step.specs.Round.{EachPair, WasSent, Works, call_in}
use Rattle.parallel_step.proofs.Pairs.{pairs_head, pairs_tail}

-- the last of these answers isn't good, and those before it are
record FirstBad (ss : List Shape) (log : List Sent) (p : BadAnswer) : Type 0 where
  front : List Sent
  last : Sent
  back : List Sent
  log_is : log ≡ front ++ last ∷ back
  good : All (IsGoodOf ss) front
  component : last.component ≡ p.component.0
  why : (d : Shape) → IsWhy (get_or ss last.component d) p.why last.exchange

-- ---- one slot after another

module _ {L : Type 0} {g : Ghosts L} (view : L → View) where
  abbrev inst : Slot L g → Instance
  inst s = instance_in view s

  abbrev shape_in : Slot L g → Shape
  shape_in s = (instance_in view s).view.fixed.shape

  -- in a list of shapes each slot's is its own, from the k-th on
  abbrev OwnShapes : List Shape → ℕ → List (Slot L g) → Type 0
  OwnShapes ss k olds = (i : ℕ) (d : Slot L g) (e : Shape) → i < length olds → get_or ss (k + i) e ≡ shape_in (get_or olds i d)

  own_tail : (ss : List Shape) (k : ℕ) (o : Slot L g) (os : List (Slot L g)) → OwnShapes ss k (o ∷ os) → OwnShapes ss (suc k) os
  own_tail ss k o os own i d e w = let place : suc k + i ≡ k + suc i = omega arith in ap (λ (n : ℕ). get_or ss n e) place ∙ own (suc i) d e (omega (arith, w))

  own_head : (ss : List Shape) (k : ℕ) (o : Slot L g) (os : List (Slot L g)) → OwnShapes ss k (o ∷ os) → (e : Shape) → get_or ss k e ≡ shape_in o
  own_head ss k o os own e = let place : k ≡ k + 0 = omega arith in ap (λ (n : ℕ). get_or ss n e) place ∙ own 0 o e (omega arith)

  -- the slots from the k-th on, by a log of theirs
  record From (k : ℕ) (olds news : List (Slot L g)) : Type 0 where
    log : List Sent
    calls : component_calls log ≡ jobs_from k olds
    before : (i : ℕ) → i < k → part i log ≡ []
    each : (i : ℕ) (d : Slot L g) → i < length olds → Has (inst (get_or olds i d)) (part (k + i) log) (inst (get_or news i d))
    own : (i : ℕ) (d : Slot L g) → i < length olds → IsOwn view (get_or olds i d) (part (k + i) log) (get_or news i d)
    good : (ss : List Shape) → OwnShapes ss k olds → bad_from k news ≡ None → All (IsGoodOf ss) log
    bad : (ss : List Shape) → OwnShapes ss k olds → (p : BadAnswer) → bad_from k news ≡ Some p → FirstBad ss log p

  from_nil : (k : ℕ) → From k [] []
  from_nil k = record {
    log = [];
    calls = refl;
    before = λ i h. refl;
    each = λ i d w. absurd (omega (arith, w));
    own = λ i d w. absurd (omega (arith, w));
    good = λ ss own h. All-nil (IsGoodOf ss);
    bad = λ ss own p h. absurd (cc);
  }

  module _ (k : ℕ) (o n : Slot L g) (os ns : List (Slot L g)) (rest : From (suc k) os ns) where
    shifted : (i : ℕ) (d : Slot L g) → i < length os → Has (inst (get_or os i d)) (part (k + suc i) rest.log) (inst (get_or ns i d))
    shifted i d w = let place : suc k + i ≡ k + suc i = omega arith in subst (λ (m : ℕ). Has (inst (get_or os i d)) (part m rest.log) (inst (get_or ns i d))) place (rest.each i d w)

    shifted_own : (i : ℕ) (d : Slot L g) → i < length os → IsOwn view (get_or os i d) (part (k + suc i) rest.log) (get_or ns i d)
    shifted_own i d w = let place : suc k + i ≡ k + suc i = omega arith in subst (λ (m : ℕ). IsOwn view (get_or os i d) (part m rest.log) (get_or ns i d)) place (rest.own i d w)

    -- a slot without a job
    idle : call_in o.job ≡ None → n ≡ o → From k (o ∷ os) (n ∷ ns)
    idle none is =
        let job : call_in n.job ≡ None = ap (λ (s : Slot L g). call_in s.job) is ∙ none in
        let rest_bad : bad_from k (n ∷ ns) ≡ bad_from (suc k) ns = ap (λ (c : Option Call). bad_or k (bad_of c n.answer) (bad_from (suc k) ns)) job in
        record {
          log = rest.log;
          calls = rest.calls ∙ ap (λ (c : Option Call). ask_of k c (jobs_from (suc k) os)) (sym none);
          before = λ i h. rest.before i (omega (arith, h));
          each = each_by;
          own = own_by;
          good = λ ss own h. rest.good ss (own_tail ss k o os own) (sym rest_bad ∙ h);
          bad = λ ss own p h. rest.bad ss (own_tail ss k o os own) p (sym rest_bad ∙ h);
        } where
          each_by : (i : ℕ) (d : Slot L g) → i < length (o ∷ os) → Has (inst (get_or (o ∷ os) i d)) (part (k + i) rest.log) (inst (get_or (n ∷ ns) i d))
          each_by zero d w =
              let place : k ≡ k + 0 = omega arith in
              subst (λ (es : List Exchange). Has (inst o) es (inst n)) (sym (rest.before k (omega arith)) ∙ ap (λ (m : ℕ). part m rest.log) place)
              (subst (λ (s : Slot L g). Has (inst o) [] (inst s)) (sym is) (has_none (inst o)))
          each_by (suc i) d w = shifted i d (omega (arith, w))

          no_part : part (k + 0) rest.log ≡ []
          no_part = let place : k + 0 ≡ k = omega arith in ap (λ (m : ℕ). part m rest.log) place ∙ rest.before k (omega arith)

          own_by : (i : ℕ) (d : Slot L g) → i < length (o ∷ os) → IsOwn view (get_or (o ∷ os) i d) (part (k + i) rest.log) (get_or (n ∷ ns) i d)
          own_by zero d w = subst (λ (c : Option Call). MatchOption c ((n ≡ o) × (part (k + 0) rest.log ≡ [])) (λ call. (x : WasSent view o n call) × (part (k + 0) rest.log ≡ x.did.one.exchange ∷ []))) (sym none) (is, no_part)
          own_by (suc i) d w = shifted_own i d (omega (arith, w))

    -- a slot that had its job
    module _ (call : Call) (some : call_in o.job ≡ Some call) (sent : WasSent view o n call) where
      abbrev job_is : n.job ≡ o.job
      job_is = sent.did.job_is

      abbrev r : Result Bool Why
      r = sent.answer

      abbrev answer_is : n.answer ≡ Some r
      answer_is = sent.answer_is

      abbrev did : One call asks_to_end (inst o) (inst n) r
      did = sent.did.one

      abbrev own_sent : Sent
      own_sent = record { component = k; exchange = did.exchange }

      abbrev all : List Sent
      all = own_sent ∷ rest.log

      job_here : call_in n.job ≡ Some call
      job_here = ap call_in job_is ∙ some

      bad_here : bad_from k (n ∷ ns) ≡ bad_or k (bad_of (Some call) (Some r)) (bad_from (suc k) ns)
      bad_here = ap (λ (c : Option Call). bad_or k (bad_of c n.answer) (bad_from (suc k) ns)) job_here ∙ ap (λ (x : Option (Result Bool Why)). bad_or k (bad_of (Some call) x) (bad_from (suc k) ns)) answer_is

      at_k : part k all ≡ did.exchange ∷ []
      at_k = takes (k == k) did.exchange (part k rest.log) (same k k refl) ∙ ap (λ (es : List Exchange). did.exchange ∷ es) (rest.before k (omega arith))

      past_k : (i : ℕ) → k ≢ i → part i all ≡ part i rest.log
      past_k i h = skips (k == i) did.exchange (part i rest.log) (other k i h)

      each_by : (i : ℕ) (d : Slot L g) → i < length (o ∷ os) → Has (inst (get_or (o ∷ os) i d)) (part (k + i) all) (inst (get_or (n ∷ ns) i d))
      each_by zero d w =
          let place : k ≡ k + 0 = omega arith in
          subst (λ (es : List Exchange). Has (inst o) es (inst n)) (sym at_k ∙ ap (λ (m : ℕ). part m all) place) did.has
      each_by (suc i) d w =
          subst (λ (es : List Exchange). Has (inst (get_or os i d)) es (inst (get_or ns i d))) (sym (past_k (k + suc i) (λ e. absurd (omega (arith, e))))) (shifted i d (omega (arith, w)))

      own_by : (i : ℕ) (d : Slot L g) → i < length (o ∷ os) → IsOwn view (get_or (o ∷ os) i d) (part (k + i) all) (get_or (n ∷ ns) i d)
      own_by zero d w =
          let place : k + 0 ≡ k = omega arith in
          let here : part (k + 0) all ≡ did.exchange ∷ [] = ap (λ (m : ℕ). part m all) place ∙ at_k in
          subst (λ (c : Option Call). MatchOption c ((n ≡ o) × (part (k + 0) all ≡ [])) (λ call. (x : WasSent view o n call) × (part (k + 0) all ≡ x.did.one.exchange ∷ []))) (sym some) (sent, here)
      own_by (suc i) d w =
          subst (λ (es : List Exchange). IsOwn view (get_or os i d) es (get_or ns i d)) (sym (past_k (k + suc i) (λ e. absurd (omega (arith, e))))) (shifted_own i d (omega (arith, w)))

      good_by : (q : Result Bool Why) → r ≡ q → (ss : List Shape) → OwnShapes ss k (o ∷ os) → bad_or k (bad_of (Some call) (Some q)) (bad_from (suc k) ns) ≡ None → All (IsGoodOf ss) all
      good_by (Ok x) is ss own h =
          All-cons (IsGoodOf ss) own_sent rest.log
          (λ e. subst (λ (z : Shape). IsGood z did.exchange) (sym (own_head ss k o os own e)) (subst (λ (y : Result Bool Why). Worth (shape_in o) asks_to_end did.exchange y) is did.worth).0)
          (rest.good ss (own_tail ss k o os own) h)
      good_by (Err why) is ss own h = absurd (cc)

      bad_by : (q : Result Bool Why) → r ≡ q → (ss : List Shape) → OwnShapes ss k (o ∷ os) → (p : BadAnswer) → bad_or k (bad_of (Some call) (Some q)) (bad_from (suc k) ns) ≡ Some p → FirstBad ss all p
      bad_by (Ok x) is ss own p h =
          let more = rest.bad ss (own_tail ss k o os own) p h in
          record {
            front = own_sent ∷ more.front;
            last = more.last;
            back = more.back;
            log_is = ap (λ (xs : List Sent). own_sent ∷ xs) more.log_is;
            good = All-cons (IsGoodOf ss) own_sent more.front
                (λ e. subst (λ (z : Shape). IsGood z did.exchange) (sym (own_head ss k o os own e)) (subst (λ (y : Result Bool Why). Worth (shape_in o) asks_to_end did.exchange y) is did.worth).0) more.good;
            component = more.component;
            why = more.why;
          }
      bad_by (Err why) is ss own p h =
          let here : record { component = record { 0 = k }; why = why } ≡ p = some_same h in
          record {
            front = [];
            last = own_sent;
            back = rest.log;
            log_is = refl;
            good = All-nil (IsGoodOf ss);
            component = ap (λ (x : BadAnswer). x.component.0) here;
            why = λ e. subst (λ (z : Shape). IsWhy z p.why did.exchange) (sym (own_head ss k o os own e))
                (subst (λ (x : BadAnswer). IsWhy (shape_in o) x.why did.exchange) here (subst (λ (y : Result Bool Why). Worth (shape_in o) asks_to_end did.exchange y) is did.worth));
          } where
            some_same : {A : Type 0} → {x y : A} → Some x ≡ Some y → x ≡ y
            some_same e = cc

      working : From k (o ∷ os) (n ∷ ns)
      working = record {
        log = all;
        calls = ap₂ (λ (c : Call) (xs : List ComponentCall). record { component = k; call = c } ∷ xs) did.is rest.calls ∙ ap (λ (c : Option Call). ask_of k c (jobs_from (suc k) os)) (sym some);
        before = λ i h. past_k i (λ e. absurd (omega (arith, e, h))) ∙ rest.before i (omega (arith, h));
        each = each_by;
        own = own_by;
        good = λ ss own h. good_by r refl ss own (sym bad_here ∙ h);
        bad = λ ss own p h. bad_by r refl ss own p (sym bad_here ∙ h);
      }

    one_more : (c : Option Call) → call_in o.job ≡ c → MatchOption c (n ≡ o) (WasSent view o n) → From k (o ∷ os) (n ∷ ns)
    one_more None is w = idle is w
    one_more (Some call) is w = working call is w

  from : (k : ℕ) (olds news : List (Slot L g)) → EachPair (Works view) olds news → From k olds news
  from k [] [] p = from_nil k
  from k [] (n ∷ ns) p = absurd (let l = p.len in omega (arith, l))
  from k (o ∷ os) [] p = absurd (let l = p.len in omega (arith, l))
  from k (o ∷ os) (n ∷ ns) p =
      one_more k o n os ns (from (suc k) os ns (pairs_tail (Works view) o n os ns p)) (call_in o.job) refl (pairs_head (Works view) o n os ns p)

  -- ---- the whole

  at_inst : (xs : List (Slot L g)) (i : ℕ) (d : Slot L g) (e : Instance) → i < length xs → get_or (map inst xs) i e ≡ inst (get_or xs i d)
  at_inst [] i d e w = absurd (omega (arith, w))
  at_inst (x ∷ xs) zero d e w = refl
  at_inst (x ∷ xs) (suc i) d e w = at_inst xs i d e (omega (arith, w))

  at_shape : (xs : List (Slot L g)) (i : ℕ) (d : Slot L g) (e : Shape) → i < length xs → get_or (map shape_in xs) i e ≡ shape_in (get_or xs i d)
  at_shape [] i d e w = absurd (omega (arith, w))
  at_shape (x ∷ xs) zero d e w = refl
  at_shape (x ∷ xs) (suc i) d e w = at_shape xs i d e (omega (arith, w))

  some_slot : (xs : List (Slot L g)) (i : ℕ) → i < length xs → Slot L g
  some_slot [] i w = absurd (omega (arith, w))
  some_slot (x ∷ xs) i w = x

  pub lifted : (olds news : List (Slot L g)) → EachPair (Works view) olds news → Lifted view olds news
  lifted olds news p = record {
    log = f.log;
    told = record {
      len = (let a = length-map news inst in let b = length-map olds inst in let c = p.len in omega (arith, a, b, c));
      each = λ i d w. let m = length-map olds inst in each_by i d (omega (arith, m, w));
    };
    says = subst (λ (ss : List Shape). AllSent ss (jobs_from 0 olds) f.log (bad_from 0 news)) (two_maps olds) (says_by (bad_from 0 news) refl);
    own = λ i d w. let place : 0 + i ≡ i = omega arith in subst (λ (n : ℕ). IsOwn view (get_or olds i d) (part n f.log) (get_or news i d)) place (f.own i d w);
  } where
    f : From 0 olds news
    f = from 0 olds news p

    shapes_own : OwnShapes (map shape_in olds) 0 olds
    shapes_own i d e w = let place : 0 + i ≡ i = omega arith in ap (λ (n : ℕ). get_or (map shape_in olds) n e) place ∙ at_shape olds i d e w

    each_by : (i : ℕ) (d : Instance) → i < length olds → Has (get_or (map inst olds) i d) (part i f.log) (get_or (map inst news) i d)
    each_by i d w =
        let s = some_slot olds i w in
        let l = p.len in
        let place : 0 + i ≡ i = omega arith in
        subst (λ (x : Instance). Has x (part i f.log) (get_or (map inst news) i d)) (sym (at_inst olds i s d w))
        (subst (λ (x : Instance). Has (inst (get_or olds i s)) (part i f.log) x) (sym (at_inst news i s d (omega (arith, l, w))))
        (subst (λ (n : ℕ). Has (inst (get_or olds i s)) (part n f.log) (inst (get_or news i s))) place (f.each i s w)))

    says_by : (b : Option BadAnswer) → bad_from 0 news ≡ b → AllSent (map shape_in olds) (jobs_from 0 olds) f.log b
    says_by None is = record { calls_are = f.calls; good = f.good (map shape_in olds) shapes_own is }
    says_by (Some q) is =
        let x = f.bad (map shape_in olds) shapes_own q is in
        record {
          prefix = x.front;
          last = x.last;
          back = x.back;
          log_is = x.log_is;
          calls_are = f.calls;
          first = record { good = x.good; component = x.component; why = x.why };
        }

    two_maps : (xs : List (Slot L g)) → map shape_in xs ≡ shapes (instances view xs)
    two_maps [] = refl
    two_maps (x ∷ xs) = ap (λ (ss : List Shape). shape_in x ∷ ss) (two_maps xs)
