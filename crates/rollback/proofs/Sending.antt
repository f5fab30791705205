-- A turn sent over slots is a round over a log.
use Rattle.std.proofs.Common.{◌≡◌, ℕ, zero, suc, ◌+◌, ◌-◌, ◌<◌, ◌==◌, Bool, true, false, not, List, [], ◌∷◌, Option, Some, None, Result, Ok, Err, refl, sym, ap, ap₂, ◌∙◌, subst, arith, is_some, length, get_or}
use Rattle.std.specs.Prelude.{All, MatchOption, OnOk, nat_lt, ◌&&◌, ◌||◌, if◌then◌else◌}
use Rattle.std.specs.List.{list_any}
use Rattle.std.proofs.lemmas.List.Elements.{All-nil}
use Rattle.std.proofs.lemmas.List.Folds.{list_any_at, list_any_none}
use Rattle.fmi_calls.specs.declared.call.Call.{Call}
use Rattle.fmi_calls.specs.declared.call.Call.TheVariants as C
use Rattle.fmu_peer.specs.declared.ended.Why.{Why}
use Rattle.fmu_peer.specs.declared.job.Job.TheVariants as J
use Rattle.fmu_peer.specs.declared.peer.Exchange.{Exchange}
use Rattle.fmu_peer.specs.declared.peer.Peer.{Ghosts}
use Rattle.fmu_peer.specs.declared.slot.Slot.{Slot}
use Rattle.fmu_peer.specs.CloseAll.{Instance, instance_in}
use Rattle.fmu_peer.specs.View.{View}
use Rattle.slot_calls.specs.Carried.{asks_to_end}
use Rattle.slot_calls.specs.Log.{ComponentCall, Told, Worth, part}
use Rattle.slot_calls.specs.Slots.{IsLive, instances}
use Rattle.slot_calls.specs.Stage.{IsGoodOf, shapes}
use Rattle.slot_calls.proofs.CallerLemmas.{told_none}
use Rattle.slot_calls.specs.declared.bad_answer.BadAnswer.{BadAnswer}
use Rattle.step_agreement.specs.Agreement.{Stand, to_some, to_some_from}
use Rattle.parallel_step.specs.Lifted.{AllSent, IsOwn, Lifted, ask_of, bad_from, bad_of, bad_or, jobs_from}
use Rattle.parallel_step.specs.Round.{CanWork, EachPair, WasSent, Works, call_in}
use Rattle.parallel_step.proofs.CallerLemmas.{lifted, pairs_head, pairs_map, pairs_tail}
use Rattle.rollback.specs.Places.{CanDo, GoodSent, SentTo, Sends, WithJob, call_of, is_sent, job_of, passes, stand_in, stands, told_by, with_job}
use Rattle.rollback.specs.declared.asking.Turn.{Turn}
use Rattle.rollback.specs.declared.asking.Turn.TheVariants as T
use Rattle.rollback.specs.declared.places.Who.{Who}
use Rattle.rollback.specs.declared.places.Who.TheVariants as W

-- ---- the job of one

-- its call, or none
pub job_call : (who : Who) (turn : Turn) (s : Stand) → call_in (job_of who turn s) ≡ (if is_sent who turn s then Some (call_of turn) else None)
job_call who T.Save s = by (passes who s) where
  by : (b : Bool) → call_in (if b then J.Save else J.Nothing) ≡ (if b then Some C.Save else None)
  by true = refl
  by false = refl
job_call who (T.Back t) s = by (passes who s) (s.point == t) where
  by : (b h : Bool) → call_in (if b then (if h then J.Nothing else J.Restore) else J.Nothing) ≡ (if b && not h then Some C.Restore else None)
  by true true = refl
  by true false = refl
  by false h = refl
job_call who (T.Step t end) s = by (passes who s) where
  by : (b : Bool) → call_in (if b then J.Step t (end - t) else J.Nothing) ≡ (if b then Some (C.DoStep t (end - t)) else None)
  by true = refl
  by false = refl
job_call who T.Free s = by (passes who s) where
  by : (b : Bool) → call_in (if b then J.Free else J.Nothing) ≡ (if b then Some C.Free else None)
  by true = refl
  by false = refl

ask_if : (b : Bool) (k : ℕ) (call : Call) (rest : List ComponentCall) → ask_of k (if b then Some call else None) rest ≡ (if b then record { component = k; call = call } ∷ rest else rest)
ask_if true k call rest = refl
ask_if false k call rest = refl

one_job : (who : Who) (turn : Turn) (k : ℕ) (s : Stand) (rest : List ComponentCall) → ask_of k (call_in (job_of who turn s)) rest ≡ (if is_sent who turn s then record { component = k; call = call_of turn } ∷ rest else rest)
one_job who turn k s rest = ap (λ (o : Option Call). ask_of k o rest) (job_call who turn s) ∙ ask_if (is_sent who turn s) k (call_of turn) rest

-- where no two might return early, nobody is selected
nobody : (early : ℕ) → nat_lt 1 early ≡ false → (turn : Turn) (s : Stand) → is_sent (W.Saved early) turn s ≡ false
nobody early few T.Save s = few
nobody early few (T.Back t) s = ap (λ (b : Bool). b && not (s.point == t)) few
nobody early few (T.Step t end) s = few
nobody early few T.Free s = few

pub none_meant : {L : Type 0} {g : Ghosts L} (view : L → View) (early : ℕ) → nat_lt 1 early ≡ false → (turn : Turn) (slots : List (Slot L g)) → list_any (λ (s : Slot L g). is_sent (W.Saved early) turn (stand_in view s)) slots ≡ false
none_meant {L = L} {g = g} view early few turn slots = list_any_none (λ (s : Slot L g). is_sent (W.Saved early) turn (stand_in view s)) slots (λ k d w. nobody early few turn (stand_in view (get_or slots k d)))

-- ---- no bad answer

none_or : (k : ℕ) (o : Option Why) (rest : Option BadAnswer) → bad_or k o rest ≡ None → (o ≡ None) × (rest ≡ None)
none_or k None rest h = (refl, h)
none_or k (Some why) rest h = absurd (cc)

module _ {L : Type 0} {g : Ghosts L} where
  bad_none : (k : ℕ) (news : List (Slot L g)) → bad_from k news ≡ None → (i : ℕ) (d : Slot L g) → i < length news → bad_of (call_in (get_or news i d).job) (get_or news i d).answer ≡ None
  bad_none k [] h i d w = absurd (omega (arith, w))
  bad_none k (n ∷ ns) h zero d w = (none_or k (bad_of (call_in n.job) n.answer) (bad_from (suc k) ns) h).0
  bad_none k (n ∷ ns) h (suc i) d w = bad_none (suc k) ns (none_or k (bad_of (call_in n.job) n.answer) (bad_from (suc k) ns) h).1 i d (omega (arith, w))

module _ {L : Type 0} {g : Ghosts L} (view : L → View) (who : Who) (turn : Turn) where
  -- ---- one slot

  good_sent : (call : Call) (o n : Slot L g) (es : List Exchange) (w : WasSent view (with_job view who turn o) n call) → es ≡ w.did.one.exchange ∷ [] → call_in n.job ≡ Some call → bad_of (call_in n.job) n.answer ≡ None → GoodSent view call o es n
  good_sent call o n es w is some none = by w.answer refl where
    none_here : bad_of (Some call) (Some w.answer) ≡ None
    none_here = ap₂ (λ (c : Option Call) (a : Option (Result Bool Why)). bad_of c a) (sym some) (sym w.answer_is) ∙ none

    by : (r : Result Bool Why) → w.answer ≡ r → GoodSent view call o es n
    by (Ok x) answer =
        let worth = subst (λ (r : Result Bool Why). Worth (instance_in view o).view.fixed.shape asks_to_end w.did.one.exchange r) answer w.did.one.worth in
        record {
          exchange = w.did.one.exchange;
          is = is;
          call_is = w.did.one.is;
          has = w.did.one.has;
          good = worth.0;
          live = subst (λ (r : Result Bool Why). OnOk r (IsLive view n.held)) answer w.did.live;
          answer = w.answer_is ∙ ap Some (answer ∙ ap Ok worth.1);
        }
    by (Err why) answer = absurd (let wrong : Some why ≡ None = ap (λ (r : Result Bool Why). bad_of (Some call) (Some r)) (sym answer) ∙ none_here in cc)

  sent_to : (o m n : Slot L g) (es : List Exchange) → m ≡ with_job view who turn o → IsOwn view m es n → bad_of (call_in n.job) n.answer ≡ None → SentTo view (call_of turn) (is_sent who turn (stand_in view o)) o es n
  sent_to o m n es job own none = by (is_sent who turn (stand_in view o)) refl (subst (λ (s : Slot L g). IsOwn view s es n) job own) where
    Mine : Option Call → Type 0
    Mine c = MatchOption c ((n ≡ with_job view who turn o) × (es ≡ [])) (λ call. (w : WasSent view (with_job view who turn o) n call) × (es ≡ w.did.one.exchange ∷ []))

    by : (b : Bool) → is_sent who turn (stand_in view o) ≡ b → Mine (call_in (job_of who turn (stand_in view o))) → SentTo view (call_of turn) b o es n
    by true sent mine =
        let some : call_in (job_of who turn (stand_in view o)) ≡ Some (call_of turn) = job_call who turn (stand_in view o) ∙ ap (λ (x : Bool). if x then Some (call_of turn) else None) sent in
        let here : Mine (Some (call_of turn)) = subst Mine some mine in
        good_sent (call_of turn) o n es here.0 here.1 (ap call_in here.0.did.job_is ∙ some) none
    by false unsent mine =
        let no_call : call_in (job_of who turn (stand_in view o)) ≡ None = job_call who turn (stand_in view o) ∙ ap (λ (x : Bool). if x then Some (call_of turn) else None) unsent in
        let here : Mine None = subst Mine no_call mine in
        record { is = here.1; job = job_of who turn (stand_in view o); new_is = here.0 }

  -- ---- all

  jobs_are : (k : ℕ) (olds mids : List (Slot L g)) → EachPair (WithJob view who turn) olds mids → jobs_from k mids ≡ to_some_from k (is_sent who turn) (call_of turn) (stands view olds)
  jobs_are k [] [] p = refl
  jobs_are k [] (m ∷ ms) p = absurd (let l = p.len in omega (arith, l))
  jobs_are k (o ∷ os) [] p = absurd (let l = p.len in omega (arith, l))
  jobs_are k (o ∷ os) (m ∷ ms) p =
      let is : m ≡ with_job view who turn o = pairs_head (WithJob view who turn) o m os ms p in
      let place : suc k ≡ k + 1 = omega arith in
      ap₂ (λ (s : Slot L g) (rest : List ComponentCall). ask_of k (call_in s.job) rest) is (jobs_are (suc k) os ms (pairs_tail (WithJob view who turn) o m os ms p) ∙ ap (λ (n : ℕ). to_some_from n (is_sent who turn) (call_of turn) (stands view os)) place)
      ∙ one_job who turn k (stand_in view o) (to_some_from (k + 1) (is_sent who turn) (call_of turn) (stands view os))

  same_instances : (olds mids : List (Slot L g)) → EachPair (WithJob view who turn) olds mids → instances view mids ≡ instances view olds
  same_instances olds mids p = pairs_map (WithJob view who turn) (λ (s : Slot L g). instance_in view s) (λ (s : Slot L g). instance_in view s) (λ x y h. ap (λ (s : Slot L g). instance_in view s) h) olds mids p

  -- each may be sent its job
  pub can_each : (olds mids : List (Slot L g)) → EachPair (WithJob view who turn) olds mids → All (CanDo view who turn) olds → All (CanWork view) mids
  can_each olds mids p can = λ k d w. let l = p.len in let here : k < length olds = omega (arith, l, w) in subst (CanWork view) (sym (p.each k d here)) (can k d here)

  -- ---- none

  none_asked : (k : ℕ) (olds : List (Slot L g)) → list_any (λ (s : Slot L g). is_sent who turn (stand_in view s)) olds ≡ false → to_some_from k (is_sent who turn) (call_of turn) (stands view olds) ≡ []
  none_asked k [] h = refl
  none_asked k (o ∷ os) h = by (is_sent who turn (stand_in view o)) h (none_asked (k + 1) os) where
    rest : List ComponentCall
    rest = to_some_from (k + 1) (is_sent who turn) (call_of turn) (stands view os)

    others : Bool
    others = list_any (λ (s : Slot L g). is_sent who turn (stand_in view s)) os

    by : (b : Bool) → (b || others) ≡ false → (others ≡ false → rest ≡ []) → (if b then record { component = k; call = call_of turn } ∷ rest else rest) ≡ []
    by true h more = absurd (cc)
    by false h more = more h

  none_at : (olds : List (Slot L g)) → list_any (λ (s : Slot L g). is_sent who turn (stand_in view s)) olds ≡ false → (i : ℕ) (d : Slot L g) → i < length olds → false ≡ is_sent who turn (stand_in view (get_or olds i d))
  none_at olds h i d w = by (is_sent who turn (stand_in view (get_or olds i d))) refl where
    by : (b : Bool) → is_sent who turn (stand_in view (get_or olds i d)) ≡ b → false ≡ b
    by true e = sym h ∙ list_any_at (λ (s : Slot L g). is_sent who turn (stand_in view s)) olds i d w e
    by false e = refl

  -- a turn that is for none
  pub sends_none : (olds : List (Slot L g)) → list_any (λ (s : Slot L g). is_sent who turn (stand_in view s)) olds ≡ false → Sends {T = Unit {0}} view who turn olds olds (Ok tt)
  sends_none olds h = record {
    log = [];
    told = told_none (instances view olds);
    says = record { calls_are = sym (none_asked 0 olds h); good = All-nil (IsGoodOf (shapes (instances view olds))) };
    well = λ i d w. subst (λ (b : Bool). SentTo view (call_of turn) b (get_or olds i d) [] (get_or olds i d)) (none_at olds h i d w) (record { is = refl; job = (get_or olds i d).job; new_is = refl });
  }

  module _ (olds mids news : List (Slot L g)) (jobs : EachPair (WithJob view who turn) olds mids) (works : EachPair (Works view) mids news) where
    l : Lifted view mids news
    l = lifted view mids news works

    told : Told l.log (instances view olds) (instances view news)
    told = subst (λ (is : List Instance). Told l.log is (instances view news)) (same_instances olds mids jobs) l.told

    says : (b : Option BadAnswer) → bad_from 0 news ≡ b → AllSent (shapes (instances view olds)) (to_some (is_sent who turn) (call_of turn) (stands view olds)) l.log b
    says b is =
        subst (λ (cs : List ComponentCall). AllSent (shapes (instances view olds)) cs l.log b) (jobs_are 0 olds mids jobs)
        (subst (λ (x : List Instance). AllSent (shapes x) (jobs_from 0 mids) l.log b) (same_instances olds mids jobs) (subst (AllSent (shapes (instances view mids)) (jobs_from 0 mids) l.log) is l.says))

    pub sends_ok : bad_from 0 news ≡ None → Sends {T = Unit {0}} view who turn olds news (Ok tt)
    sends_ok none = record {
      log = l.log;
      told = told;
      says = says None none;
      well = λ i d w.
          let a = jobs.len in let b = works.len in
          sent_to (get_or olds i d) (get_or mids i d) (get_or news i d) (part i l.log) (jobs.each i d w) (l.own i d (omega (arith, a, w))) (bad_none 0 news none i d (omega (arith, a, b, w)));
    }

    pub sends_bad : (bad : BadAnswer) → bad_from 0 news ≡ Some bad → Sends {T = Unit {0}} view who turn olds news (Err bad)
    sends_bad bad is = record { log = l.log; told = told; says = says (Some bad) is; well = tt }

    -- by the first answer that isn't good, where there is one
    pub sends_by : Sends view who turn olds news (told_by (bad_from 0 news))
    sends_by = by (bad_from 0 news) refl where
      by : (o : Option BadAnswer) → bad_from 0 news ≡ o → Sends view who turn olds news (told_by o)
      by None is = sends_ok is
      by (Some bad) is = sends_bad bad is

-- where it is known whether one isn't good
pub none_bad : (o : Option BadAnswer) → true ≡ not (is_some o) → o ≡ None
none_bad None h = refl
none_bad (Some bad) h = absurd (cc)

pub some_bad : (o : Option BadAnswer) → false ≡ not (is_some o) → is_some o ≡ true
some_bad None h = absurd (cc)
some_bad (Some bad) h = refl
