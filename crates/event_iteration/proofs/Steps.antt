-- A walk in which calls wait, step by step.
use Rattle.std.proofs.Common.{◌≡◌, ℕ, ◌<◌, ◌≤◌, ◌+◌, inl, inr, ℤ, Bool, true, false, List, [], ◌∷◌, ◌++◌, Option, Some, None, Result, Ok, Err, Contains, refl, sym, ap, ap₂, ◌∙◌, subst, arith, append_assoc, append-nil, length, map, take, drop, get_or, set}
use Rattle.std.specs.Prelude.{All, MatchResult, ◌==◌, if◌then◌else◌, option_map, slice_get, slice_set}
use Rattle.std.specs.Result.{result_ok}
use Rattle.std.proofs.lemmas.Bool.{eq-eqb, ne_eqb}
use Rattle.std.proofs.lemmas.List.{get_or-set_other, get_or-set_same, length-append, length-map, length-set, map-append, set-get_or}
use Rattle.std.proofs.lemmas.List.Elements.{All-contains, All-nil, All-push, Contains-append_left, Contains-push}
use Rattle.std.proofs.lemmas.Option.{get_or_from_slice_get, same_Some, slice_get-get_or, slice_get-map, slice_get_within}
use Rattle.sim_base.specs.declared.numbers.CompId.{CompId}
use Rattle.value_types.specs.declared.shape.Shape.{Shape}
use Rattle.fmi_calls.specs.declared.call.Call.{Call}
use Rattle.fmi_calls.specs.declared.call.Grade.TheVariants as G
use Rattle.fmi_calls.specs.declared.call.Kind.{Kind}
use Rattle.fmi_calls.specs.declared.call.Reply.{Reply}
use Rattle.fmi_calls.specs.declared.phase.Phase.{Phase}
use Rattle.fmi_calls.specs.Kinds.{kind_of}
use Rattle.fmi_calls.specs.Permission.{Permitted}
use Rattle.fmi_calls.specs.Worth.{grade_of}
use Rattle.fmu_peer.specs.declared.ended.Why.{Why}
use Rattle.fmu_peer.specs.declared.peer.Exchange.{Exchange}
use Rattle.fmu_peer.specs.declared.peer.PeerFault.{PeerFault}
use Rattle.fmu_peer.specs.Answer.{IsWhy}
use Rattle.fmu_peer.specs.CloseAll.{Instance}
use Rattle.fmu_peer.specs.Many.{MayAskAll, exchanges}
use Rattle.fmu_peer.specs.Talk.{AllGood, IsGood, calls_in, phase_from}
use Rattle.system_model.specs.declared.system.Component.{Component}
use Rattle.system_model.specs.declared.system.Port.{Port}
use Rattle.system_model.specs.declared.system.Role.{Role}
use Rattle.system_model.specs.declared.system.Role.TheVariants.{Input, Output, ClockInput, ClockOutput, TimeClock}
use Rattle.system_model.specs.declared.system.System.{System}
use Rattle.system_model.specs.Ports.{is_clock_role, is_output_role, source_of}
use Rattle.system_model.specs.Sound.{IsSound}
use Rattle.system_model.specs.Values.{value}
use Rattle.system_model.proofs.CallerLemmas.{clock_at, place_of, source_at, true_false}
use Rattle.run_model.specs.Machines.{AreFitting}
use Rattle.run_model.proofs.CallerLemmas.{none_in, push_cases}
use Rattle.slot_calls.specs.declared.bad_answer.BadAnswer.{BadAnswer}
use Rattle.slot_calls.specs.Log.{AnswersAll, Has, Sent, StopsAfter, Told}
use Rattle.slot_calls.specs.Stage.{shapes, shapes_of}
use Rattle.slot_calls.proofs.CallerLemmas.{shape_of, shapes_same, told_on}
use Rattle.event_iteration.specs.declared.walk.Waiting.{Waiting}
use Rattle.event_iteration.specs.Turns.{IsPaired, MayAsk, MayTurn, Rules, TakesTurn, Walked, Went, sent_of}
use Rattle.event_iteration.specs.Waits.{AreGoodAt, AreTurns, ComesTo, EndsBadly, Gathers, IsGoodAt, IsIdle, IsInput, IsOpen, IsPlain, IsSilent, MayWalk, OfClock, OfSource, ReadsOrSets, ReadsPort, StandsAfterReads, call_in, is_fed, passed_in, replies_in, sents, turned, untold, value_after, waits_in}
use Rattle.event_iteration.proofs.Gathering.{after_before, after_filled, asks_before, call_in-is, clock_apart, cut, fed_input, fresh, goes, goes_silently, map_alike, no_calls, none_fed, own_beside, pushed, silent_before, skips_among, unread, whole_beside, write_before}
use Rattle.event_iteration.proofs.Hypothetical.{after, may_push, told_several, told_untold}
use Rattle.event_iteration.proofs.Turned.{beside, replies_beside, turn_fits, turned_fits, turned_long, turned_push, turned_push_none, turned_set, value_after-is}
use Rattle.event_iteration.proofs.Walking.{all_prefix, by_number, more_order, split_order}

-- ---- lists

some_none : (calls : List Call) → [] ≡ map (λ (c : Call). Some c) calls → calls ≡ []
some_none [] h = refl
some_none (c ∷ calls) h = absurd (cc)

-- the call that came last is the first where there is no other
alone_at : (calls : List Call) (call first : Call) → (calls ≡ [] → first ≡ call) → (x : Call) → calls ++ call ∷ [] ≡ x ∷ [] → first ≡ x
alone_at [] call first is x e = let same : call ≡ x = cc in is refl ∙ same
alone_at (c ∷ []) call first is x e = absurd (cc)
alone_at (c ∷ d ∷ calls) call first is x e = absurd (cc)

none_wait : (calls : List Call) (n : ℕ) → length (map (λ (c : Call). Some c) calls) ≡ n → calls ≡ [] → n ≡ 0
none_wait [] n long none = sym long
none_wait (c ∷ calls) n long none = absurd (cc)

more_after : (es : List Exchange) (call : Call) (left : List Call) → [] ≡ calls_in es ++ call ∷ left → ⊥
more_after [] call left h = absurd (cc)
more_after (e ∷ es) call left h = absurd (cc)

-- the shape of an instance is that of its component
pub shape_at : (system : System) (is : List Instance) → shapes is ≡ shapes_of system → (i : ℕ) (c : Component) → slice_get system.components i ≡ Some c → (x : Instance) → slice_get is i ≡ Some x → x.view.fixed.shape ≡ c.shape
shape_at system is alike i c of x x_is =
    same_Some x.view.fixed.shape c.shape (sym (slice_get-map shape_of is i ∙ ap (option_map shape_of) x_is) ∙ ap (λ (ss : List Shape). slice_get ss i) alike
    ∙ slice_get-map (λ (y : Component). y.shape) system.components i ∙ ap (option_map (λ (y : Component). y.shape)) of)

-- a port that is no Clock isn't about itself
pub not_itself : (system : System) → IsSound system → (p : ℕ) (port : Port) → slice_get system.ports p ≡ Some port → is_clock_role port.role ≡ false → ReadsPort system p p → ⊥
not_itself system sound p port is plain (OfSource x x_is from) =
    let own : x ≡ port = same_Some x port (sym x_is ∙ is) in
    let source = source_at system sound p p port is (ap (λ (y : Port). source_of y.role) (sym own) ∙ from) in
    let role : is_output_role port.role ≡ true = ap (λ (y : Port). is_output_role y.role) (same_Some port source.source (sym is ∙ source.is)) ∙ source.feed.output in
    by port.role (ap (λ (y : Port). source_of y.role) (sym own) ∙ from) role
  where
    by : (role : Role) → source_of role ≡ Some p → is_output_role role ≡ true → ⊥
    by (Input feed) f r = true_false (sym r)
    by Output f r = absurd (cc)
    by (ClockInput feed) f r = true_false (sym r)
    by ClockOutput f r = absurd (cc)
    by (TimeClock timing) f r = absurd (cc)
not_itself system sound p port is plain (OfClock x x_is m) =
    let clock = clock_at system sound p x (place_of system sound p x x_is) p m in
    true_false (sym clock.role ∙ ap (λ (y : Port). is_clock_role y.role) (same_Some clock.clock port (sym clock.is ∙ is)) ∙ plain)

-- ---- while none waits

module _ (system : System) (rules : Rules) (before : List (Option ℤ)) (order : List ℕ) (olds : List Instance) where
  -- nothing waits, and so far it was walked
  pub rested : (k : ℕ) (w : Waiting) (values : List (Option ℤ)) (is : List Instance) → AreTurns system rules → StandsAfterReads system order → MayWalk system rules before order olds → shapes is ≡ shapes_of system →
      length values ≡ length system.ports → AreFitting system values → (log : List Sent) → Told log olds is → k ≤ length order → w.count ≡ 0 → passed_in w ≡ [] → w.passed ≤ 64 → ReadsOrSets w.kind →
      Walked system rules before (take k order) values log → Gathers system rules before order olds k w values is
  rested k w values is turns ordered may alike places fits log told within count skips few kind walked = record {
    turns = turns;
    ordered = ordered;
    may = may;
    alike = alike;
    places = places;
    fits = fits;
    log = log;
    told = told;
    within = within;
    few = (omega (arith, count));
    passed_few = few;
    none_passed = λ c. skips;
    passed = λ q m. absurd (none_in q (subst (λ (l : List ℕ). Contains l q) skips m));
    many = ap length none ∙ sym count;
    kind = kind;
    calls = [];
    each = ap (map (call_in system rules values)) none;
    alone = λ call h. absurd (cc);
    kinds = All-nil _;
    plain = subst (All (IsPlain system w.component)) (sym none) (All-nil (IsPlain system w.component));
    among = λ q m. absurd (none_in q (subst (λ (l : List ℕ). Contains l q) none m));
    asked = λ x at. tt;
    walked = λ es calls good. subst (λ (l : List Exchange). Walked system rules before (take k order) (turned system rules (passed_in w) [] (turned system rules (waits_in w) (replies_in l) values)) (log ++ sents w.component.0 l))
        (sym (no_calls es calls))
        (subst (λ (s : List ℕ). Walked system rules before (take k order) (turned system rules s [] (turned system rules (waits_in w) [] values)) (log ++ [])) (sym skips)
        (subst (λ (q : List ℕ). Walked system rules before (take k order) (turned system rules q [] values) (log ++ [])) (sym none)
        (subst (λ (l : List Sent). Walked system rules before (take k order) values l) (sym (append-nil log)) walked)));
    comes = λ es call left h. absurd (more_after es call left h);
  }
    where
      none : waits_in w ≡ []
      none = ap (λ (n : ℕ). take n w.ports) count

  module _ (k : ℕ) (w : Waiting) (values : List (Option ℤ)) (is : List Instance) (g : Gathers system rules before order olds k w values is) where
    pub walked_now : w.count ≡ 0 → Walked system rules before (take k order) values g.log
    walked_now count =
        let none : waits_in w ≡ [] = ap (λ (n : ℕ). take n w.ports) count in
        let calls : g.calls ≡ [] = some_none g.calls (sym (ap (map (call_in system rules values)) none) ∙ g.each) in
        subst (λ (l : List Sent). Walked system rules before (take k order) values l) (append-nil g.log)
        (subst (λ (q : List ℕ). Walked system rules before (take k order) (turned system rules q [] values) (g.log ++ [])) none
        (subst (λ (s : List ℕ). Walked system rules before (take k order) (turned system rules s [] (turned system rules (waits_in w) [] values)) (g.log ++ [])) (g.none_passed count)
        (g.walked [] (sym calls) (All-nil (IsGoodAt system w.component.0)))))

    -- so others may wait for another component
    pub rehomed : (next : Waiting) → w.count ≡ 0 → next.count ≡ 0 → passed_in next ≡ passed_in w → next.passed ≤ 64 → ReadsOrSets next.kind → Gathers system rules before order olds k next values is
    rehomed next count none skips few kind = rested k next values is g.turns g.ordered g.may g.alike g.places g.fits g.log g.told g.within none (skips ∙ g.none_passed count) few kind (walked_now count)

-- ---- one port more

module _ (system : System) (sound : IsSound system) (rules : Rules) (before : List (Option ℤ)) (order : List ℕ) (olds : List Instance) (k : ℕ) (w : Waiting) (values : List (Option ℤ)) (is : List Instance)
    (g : Gathers system rules before order olds k w values is) (p : ℕ) (at : slice_get order k ≡ Some p) (port : Port) (port_is : slice_get system.ports p ≡ Some port) (c : Component) (of : slice_get system.components port.component.0 ≡ Some c) where
  abbrev i : ℕ
  i = w.component.0

  abbrev queue : List ℕ
  queue = waits_in w

  abbrev skips : List ℕ
  skips = passed_in w

  abbrev W : List Exchange → List (Option ℤ)
  W es = turned system rules skips [] (turned system rules queue (replies_in es) values)

  abbrev v : Option ℤ
  v = value_after system rules values p None

  one_more : k + 1 ≤ length order
  one_more = let lt = slice_get_within order k p at in omega (arith, lt)

  among_more : (q : ℕ) → Contains (take k order) q → Contains (take (k + 1) order) q
  among_more q m = subst (λ (l : List ℕ). Contains l q) (sym (more_order order k p at)) (Contains-append_left (take k order) (p ∷ []) q m)

  passed_more : (q : ℕ) → Contains skips q → Contains (take (k + 1) order) q × IsInput system q
  passed_more q m = (among_more q (g.passed q m).0, (g.passed q m).1)

  -- it sends nothing, and is about none that waits
  pub quiet : is_fed system queue p ≡ false → rules.asks p port c values ≡ None → Gathers system rules before order olds (k + 1) w (slice_set values p (value_after system rules values p None)) is
  quiet unfed none = record {
    turns = g.turns;
    ordered = g.ordered;
    may = g.may;
    alike = g.alike;
    places = length-set values p _ ∙ g.places;
    fits = turn_fits system rules g.turns values g.places g.fits p None;
    log = g.log;
    told = g.told;
    within = one_more;
    few = g.few;
    passed_few = g.passed_few;
    none_passed = g.none_passed;
    passed = passed_more;
    many = g.many;
    kind = g.kind;
    calls = g.calls;
    each = map_alike (call_in system rules (slice_set values p v)) (call_in system rules values) queue (λ q m. kept q m) ∙ g.each;
    alone = g.alone;
    kinds = g.kinds;
    plain = g.plain;
    among = λ q m. among_more q (g.among q m);
    asked = g.asked;
    walked = λ es calls good.
        let os = replies_in es in
        let silent : rules.asks p port c (W es) ≡ None = asks_before system sound rules g.turns order g.ordered k p at w g.plain g.among g.passed values os port c port_is unfed ∙ none in
        let same : slice_set (W es) p (value_after system rules (W es) p None) ≡ turned system rules skips [] (turned system rules queue os (slice_set values p v)) =
        ap (λ (x : Option ℤ). slice_set (W es) p x) (after_before system sound rules g.turns order g.ordered k p at w g.plain g.among g.passed values os port None port_is unfed)
        ∙ sym (write_before system sound rules g.turns order g.ordered k p at w g.plain g.among g.passed values os v) in
        subst (λ (V : List (Option ℤ)). Walked system rules before (take (k + 1) order) V (g.log ++ sents i es)) same
        (goes_silently system rules before order k p at port port_is c of (W es) (g.log ++ sents i es) (g.walked es calls good) silent);
    comes = g.comes;
  }
    where
      kept : (q : ℕ) → Contains queue q → call_in system rules (slice_set values p v) q ≡ call_in system rules values q
      kept q m =
          let there = All-contains (IsPlain system w.component) queue q g.plain m in
          let its = place_of system sound q there.port there.is in
          call_in-is system rules (slice_set values p v) q there.port its.component there.is its.is.of
          ∙ g.turns.asks_same q there.port its.component (slice_set values p v) values there.is (λ r reads. get_or-set_other values p r v None (λ e. unread system sound rules g.turns order g.ordered k p at w g.plain g.among g.passed q (g.among q m) (subst (ReadsPort system q) e reads)))
          ∙ sym (call_in-is system rules values q there.port its.component there.is its.is.of)

  -- it sends nothing whatever its source's value is, which waits
  pub passes : is_fed system queue p ≡ true → IsSilent system rules p values → w.passed < 64 → (next : Waiting) → next ≡ record w { inputs = next.inputs; passed = next.passed } → passed_in next ≡ skips ++ p ∷ [] → next.passed ≡ w.passed + 1 →
      Gathers system rules before order olds (k + 1) next values is
  passes fed silent room next same inputs count = subst (λ (x : Waiting). Gathers system rules before order olds (k + 1) x values is) (sym same) (record {
    turns = g.turns;
    ordered = g.ordered;
    may = g.may;
    alike = g.alike;
    places = g.places;
    fits = g.fits;
    log = g.log;
    told = g.told;
    within = one_more;
    few = g.few;
    passed_few = omega (arith, room, count);
    none_passed = λ none. absurd (true_false (sym fed ∙ ap (λ (ports : List ℕ). is_fed system ports p) (ap (λ (n : ℕ). take n w.ports) none) ∙ none_fed system p));
    passed = λ q m. push_cases skips p q (subst (λ (l : List ℕ). Contains l q) inputs m) (λ old. passed_more q old)
        (λ here. (
          subst (λ (l : List ℕ). Contains l q) (sym (more_order order k p at)) (subst (Contains (take k order ++ p ∷ [])) here (Contains-push (take k order) p)),
          subst (IsInput system) here (fed_input system queue p fed),
        ));
    many = g.many;
    kind = g.kind;
    calls = g.calls;
    each = g.each;
    alone = g.alone;
    kinds = g.kinds;
    plain = g.plain;
    among = λ q m. among_more q (g.among q m);
    asked = g.asked;
    walked = λ es calls good.
        let os = replies_in es in
        subst (λ (s : List ℕ). Walked system rules before (take (k + 1) order) (turned system rules s [] (turned system rules queue os values)) (g.log ++ sents i es))
        (sym inputs)
        (subst (λ (V : List (Option ℤ)). Walked system rules before (take (k + 1) order) V (g.log ++ sents i es)) (sym (turned_push_none system rules skips (turned system rules queue os values) p))
        (goes_silently system rules before order k p at port port_is c of (W es) (g.log ++ sents i es) (g.walked es calls good)
        (silent_before system sound rules g.turns order g.ordered k p at w g.plain g.among g.passed values os port c port_is of silent)));
    comes = g.comes;
  })

  -- it sends nothing and keeps its value whatever waits, and is left out
  pub idles : IsIdle system rules p values → Gathers system rules before order olds (k + 1) w values is
  idles idle = record {
    turns = g.turns;
    ordered = g.ordered;
    may = g.may;
    alike = g.alike;
    places = g.places;
    fits = g.fits;
    log = g.log;
    told = g.told;
    within = one_more;
    few = g.few;
    passed_few = g.passed_few;
    none_passed = g.none_passed;
    passed = passed_more;
    many = g.many;
    kind = g.kind;
    calls = g.calls;
    each = g.each;
    alone = g.alone;
    kinds = g.kinds;
    plain = g.plain;
    among = λ q m. among_more q (g.among q m);
    asked = g.asked;
    walked = λ es calls good.
        let os = replies_in es in
        let own : value (W es) p ≡ value values p = own_beside system sound rules g.turns order g.ordered k p at w g.plain g.among g.passed values os in
        let still = idle port c (W es) port_is of (λ q m. whole_beside system sound rules g.turns order g.ordered k p at w g.plain g.among g.passed values os q (clock_apart system sound rules g.turns order g.ordered k p at w g.plain g.among g.passed port port_is q m)) in
        let keeps : value_after system rules (W es) p None ≡ value (W es) p =
        value_after-is system rules (W es) p port None port_is ∙ ap (λ (last : Option ℤ). rules.takes p port (W es) last None) own ∙ still.1 ∙ sym own in
        subst (λ (V : List (Option ℤ)). Walked system rules before (take (k + 1) order) V (g.log ++ sents i es))
        (ap (λ (v : Option ℤ). slice_set (W es) p v) keeps ∙ set-get_or (W es) p None)
        (goes_silently system rules before order k p at port port_is c of (W es) (g.log ++ sents i es) (g.walked es calls good) still.0);
    comes = g.comes;
  }

  -- ---- its call waits too

  module _ (call : Call) (asks : rules.asks p port c values ≡ Some call) (unfed : is_fed system queue p ≡ false) (sort : ReadsOrSets (kind_of call)) (own : w.component ≡ port.component) (kind : w.kind ≡ kind_of call) (room : w.count < 64)
      (next : Waiting) (waits : waits_in next ≡ queue ++ p ∷ []) (count : next.count ≡ w.count + 1) (inputs : passed_in next ≡ skips) (passed_count : next.passed ≡ w.passed) (first : g.calls ≡ [] → next.first ≡ call) (component : next.component ≡ port.component) (kind_next : next.kind ≡ kind_of call) where
    here : port.component.0 ≡ i
    here = ap (λ (x : CompId). x.0) (sym own)

    there : next.component.0 ≡ i
    there = ap (λ (x : CompId). x.0) (component ∙ sym own)

    asks_whole : (es : List Exchange) → rules.asks p port c (W es) ≡ Some call
    asks_whole es = asks_before system sound rules g.turns order g.ordered k p at w g.plain g.among g.passed values (replies_in es) port c port_is unfed ∙ asks

    plain_role : is_clock_role port.role ≡ false
    plain_role = by (is_clock_role port.role) refl
      where
        by : (b : Bool) → is_clock_role port.role ≡ b → is_clock_role port.role ≡ false
        by true e = absurd (g.turns.plain p port c values call e asks sort)
        by false e = e

    long : (es : List Exchange) → calls_in es ≡ g.calls → length (replies_in es) ≡ length queue
    long es calls =
        let a = length-map es (λ (e : Exchange). result_ok e.result) in
        let b = ap length calls in
        let d = length-map es (λ (e : Exchange). e.call) in
        let e = ap length g.each in
        let f = length-map queue (call_in system rules values) in
        let h = length-map g.calls (λ (x : Call). Some x) in
        omega (arith, a, b, d, e, f, h)

    -- by good answers to the others and to this call
    pushed_walk : (es : List Exchange) (e : Exchange) → calls_in es ≡ g.calls → e.call ≡ call → AreGoodAt system i es → IsGood c.shape e →
        Walked system rules before (take (k + 1) order) (turned system rules (passed_in next) [] (turned system rules (queue ++ p ∷ []) (replies_in (es ++ e ∷ [])) values)) (g.log ++ sents i (es ++ e ∷ []))
    pushed_walk es e calls call_is good last = by e.result refl last
      where
        by : (r : Result Reply PeerFault) → e.result ≡ r → MatchResult r (λ (reply : Reply). grade_of c.shape e.call reply ≡ G.Good) (λ (fault : PeerFault). ⊥) →
            Walked system rules before (take (k + 1) order) (turned system rules (passed_in next) [] (turned system rules (queue ++ p ∷ []) (replies_in (es ++ e ∷ [])) values)) (g.log ++ sents i (es ++ e ∷ []))
        by (Err fault) is_r bad = absurd bad
        by (Ok reply) is_r grade =
            let o : Option Reply = Some reply in
            let os = replies_in es in
            let F = turned system rules queue os values in
            let paired : IsPaired c.shape (rules.asks p port c (W es)) o = subst (λ (x : Option Call). IsPaired c.shape x o) (sym (asks_whole es)) (subst (λ (x : Call). grade_of c.shape x reply ≡ G.Good) call_is grade) in
            let step = goes system rules before order k p at port port_is c of (W es) (g.log ++ sents i es) o (g.walked es calls good) paired in
            let exchange : ◌≡◌ {A = Exchange} (record { call = call; result = Ok reply }) e = ap₂ (λ (x : Call) (r : Result Reply PeerFault). record { call = x; result = r }) (sym call_is) (sym is_r) in
            let said : sent_of port.component.0 (rules.asks p port c (W es)) o ≡ sents i (e ∷ []) =
            ap (λ (x : Option Call). sent_of port.component.0 x o) (asks_whole es) ∙ ap₂ (λ (n : ℕ) (x : Exchange). sents n (x ∷ [])) here exchange in
            let log_is : (g.log ++ sents i es) ++ sent_of port.component.0 (rules.asks p port c (W es)) o ≡ g.log ++ sents i (es ++ e ∷ []) =
            ap (λ (l : List Sent). (g.log ++ sents i es) ++ l) said ∙ append_assoc g.log (sents i es) (sents i (e ∷ []))
            ∙ ap (λ (l : List Sent). g.log ++ l) (sym (map-append (λ (x : Exchange). record { component = i; exchange = x }) es (e ∷ []))) in
            let u = value_after system rules F p o in
            let swap : slice_set (W es) p (value_after system rules (W es) p o) ≡ turned system rules skips [] (slice_set F p u) =
            ap (λ (x : Option ℤ). slice_set (W es) p x) (after_filled system sound rules g.turns order g.ordered k p at w g.plain g.among g.passed values os port o port_is unfed)
            ∙ sym (turned_set system rules g.turns skips [] F p u (λ m. fresh system sound rules g.turns order g.ordered k p at w g.plain g.among g.passed (skips_among system sound rules g.turns order g.ordered k p at w g.plain g.among g.passed p m))
            (λ q m reads. unread system sound rules g.turns order g.ordered k p at w g.plain g.among g.passed q (skips_among system sound rules g.turns order g.ordered k p at w g.plain g.among g.passed q m) reads)) in
            let replies_is : os ++ o ∷ [] ≡ replies_in (es ++ e ∷ []) =
            ap (λ (r : Result Reply PeerFault). os ++ result_ok r ∷ []) (sym is_r) ∙ sym (map-append (λ (x : Exchange). result_ok x.result) es (e ∷ [])) in
            let filled_is : slice_set F p u ≡ turned system rules (queue ++ p ∷ []) (replies_in (es ++ e ∷ [])) values =
            sym (turned_push system rules queue os values p o (long es calls)) ∙ ap (λ (l : List (Option Reply)). turned system rules (queue ++ p ∷ []) l values) replies_is in
            let values_is : slice_set (W es) p (value_after system rules (W es) p o) ≡ turned system rules (passed_in next) [] (turned system rules (queue ++ p ∷ []) (replies_in (es ++ e ∷ [])) values) =
            swap ∙ ap (turned system rules skips []) filled_is
            ∙ ap (λ (s : List ℕ). turned system rules s [] (turned system rules (queue ++ p ∷ []) (replies_in (es ++ e ∷ [])) values)) (sym inputs) in
            subst (λ (V : List (Option ℤ)). Walked system rules before (take (k + 1) order) V (g.log ++ sents i (es ++ e ∷ []))) values_is
            (subst (λ (l : List Sent). Walked system rules before (take (k + 1) order) (slice_set (W es) p (value_after system rules (W es) p o)) l) log_is step)

    -- it may be asked after the others, whatever good answers they get
    asked_too : (x : Instance) → slice_get is i ≡ Some x → MayAskAll x.view.fixed.shape x.view.phase (g.calls ++ call ∷ [])
    asked_too x x_is = may_push x.view.fixed.shape x.view.phase g.calls call (g.asked x x_is) (λ es calls good.
        let others : MayAskAll x.view.fixed.shape x.view.phase (calls_in es) = subst (MayAskAll x.view.fixed.shape x.view.phase) (sym calls) (g.asked x x_is) in
        let b = after x es others good in
        let lt : i < length is = slice_get_within is i x x_is in
        let lt_untold : i < length (map untold is) = (let e = length-map is untold in omega (arith, e, lt)) in
        let x_untold : slice_get (map untold is) i ≡ Some (untold x) = slice_get-map untold is i ∙ ap (option_map untold) x_is in
        let mids = set (map untold is) i b.next in
        let told : Told (g.log ++ sents i es) (map untold olds) mids =
        told_on (map untold olds) (map untold is) mids g.log (sents i es) (told_untold g.log olds is g.told)
        (told_several (map untold is) i (untold x) b.next es lt_untold (sym (get_or_from_slice_get (map untold is) i (untold x) (untold x) x_untold)) b.has) in
        let may : MayTurn system rules p (W es) mids = g.may (take k order) p (drop (k + 1) order) (W es) (g.log ++ sents i es) mids (split_order order k p at) (g.walked es calls (good_at x x_is es good)) told in
        let lt_mids : i < length mids = (let e = length-set (map untold is) i b.next in omega (arith, e, lt_untold)) in
        let next_is : slice_get mids port.component.0 ≡ Some b.next = subst (λ (n : ℕ). slice_get mids n ≡ Some b.next) (sym here)
        (slice_get-get_or mids i b.next lt_mids ∙ ap Some (get_or-set_same (map untold is) i b.next b.next lt_untold)) in
        let asks_it : MayAsk (Some call) b.next.view = subst (λ (o : Option Call). MayAsk o b.next.view) (asks_whole es) (may port c b.next port_is of next_is) in
        subst (λ (s : Shape). Permitted s (phase_from x.view.fixed.shape x.view.phase es) call) b.shape
        (subst (λ (ph : Phase). Permitted b.next.view.fixed.shape ph call) b.phase asks_it.0))
      where
        good_at : (x : Instance) → slice_get is i ≡ Some x → (es : List Exchange) → AllGood x.view.fixed.shape es → AreGoodAt system i es
        good_at x x_is es good j d lt d_comp d_of = subst (λ (s : Shape). IsGood s (get_or es j d)) (shape_at system is g.alike i d_comp d_of x x_is) (good j d lt)

    pub pushes : Gathers system rules before order olds (k + 1) next values is
    pushes = record {
      turns = g.turns;
      ordered = g.ordered;
      may = g.may;
      alike = g.alike;
      places = g.places;
      fits = g.fits;
      log = g.log;
      told = g.told;
      within = one_more;
      few = omega (arith, count, room);
      passed_few = (let n = g.passed_few in omega (arith, n, passed_count));
      none_passed = λ none. absurd (omega (arith, none, count));
      passed = λ q m. passed_more q (subst (λ (l : List ℕ). Contains l q) inputs m);
      many = ap length waits ∙ length-append queue (p ∷ []) ∙ (let m = g.many in omega (arith, m, count));
      kind = subst ReadsOrSets (sym kind_next) sort;
      calls = g.calls ++ call ∷ [];
      each = ap (map (call_in system rules values)) waits ∙ map-append (call_in system rules values) queue (p ∷ [])
          ∙ ap₂ (λ (a b : List (Option Call)). a ++ b) g.each (ap (λ (o : Option Call). o ∷ []) (call_in-is system rules values p port c port_is of ∙ asks))
          ∙ sym (map-append (λ (x : Call). Some x) g.calls (call ∷ []));
      alone = alone_at g.calls call next.first first;
      kinds = subst (λ (x : Kind). All (λ (y : Call). kind_of y ≡ x) (g.calls ++ call ∷ [])) (kind ∙ sym kind_next) (All-push (λ (y : Call). kind_of y ≡ w.kind) g.calls call g.kinds (sym kind));
      plain = subst (All (IsPlain system next.component)) (sym waits) (subst (λ (x : CompId). All (IsPlain system x) (queue ++ p ∷ [])) (own ∙ sym component)
          (All-push (IsPlain system w.component) queue p g.plain (record { port = port; is = port_is; of = sym own; role = plain_role })));
      among = λ q m. push_cases queue p q (subst (λ (l : List ℕ). Contains l q) waits m) (λ old. among_more q (g.among q old))
          (λ same. subst (λ (l : List ℕ). Contains l q) (sym (more_order order k p at)) (subst (Contains (take k order ++ p ∷ [])) same (Contains-push (take k order) p)));
      asked = λ x x_is. asked_too x (subst (λ (n : ℕ). slice_get is n ≡ Some x) there x_is);
      walked = λ es calls good.
          let e = pushed g.calls call es calls in
          let good_i : AreGoodAt system i (e.prefix ++ e.last ∷ []) = subst (λ (l : List Exchange). AreGoodAt system i l) e.is (subst (λ (n : ℕ). AreGoodAt system n es) there good) in
          subst (λ (n : ℕ). Walked system rules before (take (k + 1) order) (turned system rules (passed_in next) [] (turned system rules (waits_in next) (replies_in es) values)) (g.log ++ sents n es)) (sym there)
          (subst (λ (q : List ℕ). Walked system rules before (take (k + 1) order) (turned system rules (passed_in next) [] (turned system rules q (replies_in es) values)) (g.log ++ sents i es)) (sym waits)
          (subst (λ (l : List Exchange). Walked system rules before (take (k + 1) order) (turned system rules (passed_in next) [] (turned system rules (queue ++ p ∷ []) (replies_in l) values)) (g.log ++ sents i l)) (sym e.is)
          (pushed_walk e.prefix e.last e.calls e.call (prefix_good e.prefix e.last good_i) (last_good e.prefix e.last good_i c (subst (λ (n : ℕ). slice_get system.components n ≡ Some c) here of)))));
      comes = λ es x left calls good.
          let good_i : AreGoodAt system i es = subst (λ (n : ℕ). AreGoodAt system n es) there good in
          subst (λ (n : ℕ). ComesTo system rules before order n x (g.log ++ sents n es)) (sym there)
          (elim (cut g.calls (calls_in es) call x left calls) as (λ r. ComesTo system rules before order i x (g.log ++ sents i es)) [
            | inl both ↦ record {
              taken = take k order;
              p = p;
              rest = drop (k + 1) order;
              values = W es;
              order_is = split_order order k p at;
              walked = g.walked es (sym both.0) good_i;
              port = port;
              is = port_is;
              component = c;
              of = of;
              at = here;
              asks = asks_whole es ∙ ap Some both.1;
            }
            | inr more ↦ g.comes es x more.0 more.1 good_i
          ]);
    }
      where
        prefix_good : (es : List Exchange) (e : Exchange) → AreGoodAt system i (es ++ e ∷ []) → AreGoodAt system i es
        prefix_good es e good = all_prefix (IsGoodAt system i) es (e ∷ []) good

        last_good : (es : List Exchange) (e : Exchange) → AreGoodAt system i (es ++ e ∷ []) → (d : Component) → slice_get system.components i ≡ Some d → IsGood d.shape e
        last_good es e good d d_of = All-contains (IsGoodAt system i) (es ++ e ∷ []) e good (Contains-push es e) d d_of

-- whether others wait or not
pub waits_too : (system : System) (sound : IsSound system) (rules : Rules) (before : List (Option ℤ)) (order : List ℕ) (olds : List Instance) (k : ℕ) (w : Waiting) (values : List (Option ℤ)) (is : List Instance) → Gathers system rules before order olds k w values is → (p : ℕ) → slice_get order k ≡ Some p →
    (port : Port) → slice_get system.ports p ≡ Some port → (c : Component) → slice_get system.components port.component.0 ≡ Some c → (call : Call) → rules.asks p port c values ≡ Some call → is_fed system (waits_in w) p ≡ false → ReadsOrSets (kind_of call) → IsOpen w port.component (kind_of call) →
    (next : Waiting) → waits_in next ≡ waits_in w ++ p ∷ [] → next.count ≡ w.count + 1 → next.inputs ≡ w.inputs → next.passed ≡ w.passed → next.first ≡ (if w.count == 0 then call else w.first) → next.component ≡ port.component → next.kind ≡ kind_of call → Gathers system rules before order olds (k + 1) next values is
waits_too system sound rules before order olds k w values is g p at port port_is c of call asks unfed sort room next waits count inputs passed_count first component kind_next = by_number w.count 0
    (λ none.
    let home : Waiting = record w { component = port.component; kind = kind_of call } in
    pushes system sound rules before order olds k home values is (rehomed system rules before order olds k w values is g home none none refl g.passed_few sort) p at port port_is c of call asks unfed sort refl refl (omega (arith, none))
    next waits count (kept next inputs passed_count) passed_count (λ empty. first ∙ ap (λ (b : Bool). if b then call else w.first) (eq-eqb w.count 0 none)) component kind_next)
    (λ some. elim room as (λ o. Gathers system rules before order olds (k + 1) next values is) [
      | inl none ↦ absurd (some none)
      | inr alike ↦ pushes system sound rules before order olds k w values is g p at port port_is c of call asks unfed sort alike.1 alike.2 alike.0 next waits count (kept next inputs passed_count) passed_count (λ empty. absurd (some (none_wait g.calls w.count (sym (ap length g.each) ∙ length-map (waits_in w) (call_in system rules values) ∙ g.many) empty))) component kind_next
    ])
  where
    kept : (next : Waiting) → next.inputs ≡ w.inputs → next.passed ≡ w.passed → passed_in next ≡ passed_in w
    kept next inputs count = ap₂ (λ (n : ℕ) (l : List ℕ). take n l) count inputs

-- ---- sending

module _ (system : System) (rules : Rules) (before : List (Option ℤ)) (order : List ℕ) (olds : List Instance) (k : ℕ) (w : Waiting) (values : List (Option ℤ)) (is : List Instance) (g : Gathers system rules before order olds k w values is)
    (x y : Instance) (x_is : slice_get is w.component.0 ≡ Some x) where
  abbrev at : ℕ
  at = w.component.0

  within : at < length is
  within = slice_get_within is at x x_is

  told_at : (es : List Exchange) → Has x es y → Told (g.log ++ sents at es) olds (set is at y)
  told_at es has = told_on olds is (set is at y) g.log (sents at es) g.told (told_several is at x y es within (sym (get_or_from_slice_get is at x x x_is)) has)

  good_there : (es : List Exchange) → AllGood x.view.fixed.shape es → AreGoodAt system at es
  good_there es good j d lt c of = subst (λ (s : Shape). IsGood s (get_or es j d)) (shape_at system is g.alike at c of x x_is) (good j d lt)

  -- all that waited were answered well
  pub sent : (replies : List Reply) → length replies ≡ length g.calls → AnswersAll g.calls replies x y → (next : Waiting) → next.count ≡ 0 → passed_in next ≡ [] → next.passed ≤ 64 → ReadsOrSets next.kind →
      Gathers system rules before order olds k next (turned system rules (passed_in w) [] (turned system rules (waits_in w) (map (λ (r : Reply). Some r) replies) values)) (set is at y)
  sent replies len all next count none few kind =
      let es = exchanges g.calls replies in
      let filled_fit = turned_fits system rules g.turns (waits_in w) (map (λ (r : Reply). Some r) replies) values g.places g.fits in
      let filled_long = turned_long system rules (waits_in w) (map (λ (r : Reply). Some r) replies) values ∙ g.places in
      let walked : Walked system rules before (take k order) (turned system rules (passed_in w) [] (turned system rules (waits_in w) (map (λ (r : Reply). Some r) replies) values)) (g.log ++ sents at es) =
      subst (λ (os : List (Option Reply)). Walked system rules before (take k order) (turned system rules (passed_in w) [] (turned system rules (waits_in w) os values)) (g.log ++ sents at es))
      (replies_beside g.calls replies len) (g.walked es (beside g.calls replies len) (good_there es all.good)) in
      let told = told_at es all.has in
      rested system rules before order olds k next _ (set is at y) g.turns g.ordered g.may
      (shapes_same (sents at es) is (set is at y) (told_several is at x y es within (sym (get_or_from_slice_get is at x x x_is)) all.has) ∙ g.alike)
      (turned_long system rules (passed_in w) [] _ ∙ filled_long) (turned_fits system rules g.turns (passed_in w) [] _ filled_long filled_fit) (g.log ++ sents at es) told g.within count none few kind walked

  -- one of them got an answer that isn't good
  pub failed : (why : Why) → StopsAfter g.calls why x y → (bad : BadAnswer) → bad.component.0 ≡ at → bad.why ≡ why → EndsBadly system rules before order olds (set is at y) bad
  failed why stops bad bad_at bad_why =
      let last : Sent = record { component = at; exchange = stops.last } in
      let calls : g.calls ≡ calls_in stops.prefix ++ stops.last.call ∷ stops.left =
      stops.calls_are ∙ ap (λ (l : List Call). l ++ stops.left) (map-append (λ (e : Exchange). e.call) stops.prefix (stops.last ∷ [])) ∙ append_assoc (calls_in stops.prefix) (stops.last.call ∷ []) stops.left in
      let there = g.comes stops.prefix stops.last.call stops.left calls (good_there stops.prefix stops.good) in
      let log_is : g.log ++ sents at (stops.prefix ++ stops.last ∷ []) ≡ (g.log ++ sents at stops.prefix) ++ last ∷ [] =
      ap (λ (l : List Sent). g.log ++ l) (map-append (λ (e : Exchange). record { component = at; exchange = e }) stops.prefix (stops.last ∷ [])) ∙ sym (append_assoc g.log (sents at stops.prefix) (last ∷ [])) in
      record {
        taken = there.taken;
        p = there.p;
        rest = there.rest;
        values = there.values;
        order_is = there.order_is;
        prefix = g.log ++ sents at stops.prefix;
        last = last;
        walked = there.walked;
        told = subst (λ (l : List Sent). Told l olds (set is at y)) log_is (told_at (stops.prefix ++ stops.last ∷ []) stops.has);
        stops = record {
          port = there.port;
          is = there.is;
          component = there.component;
          of = there.of;
          asks = there.asks;
          sent_to = sym there.at;
          told_of = bad_at ∙ sym there.at;
          why = subst (λ (r : Why). IsWhy there.component.shape r stops.last) (sym bad_why) (subst (λ (s : Shape). IsWhy s why stops.last) (shape_at system is g.alike at there.component (subst (λ (n : ℕ). slice_get system.components n ≡ Some there.component) there.at there.of) x x_is) stops.bad);
        };
      }

-- ---- a call that is sent at once

asks_told : (o : Option Call) (x : Instance) → MayAsk o (untold x).view → MayAsk o x.view
asks_told None x may = tt
asks_told (Some call) x may = may

module _ (system : System) (rules : Rules) (before : List (Option ℤ)) (order : List ℕ) (olds : List Instance) (k : ℕ) (w : Waiting) (values : List (Option ℤ)) (is : List Instance) (g : Gathers system rules before order olds k w values is) (p : ℕ)
    (at : slice_get order k ≡ Some p) (count : w.count ≡ 0) where
  pub may_now : MayTurn system rules p values is
  may_now port c x port_is of x_is =
      asks_told (rules.asks p port c values) x
      (g.may (take k order) p (drop (k + 1) order) values g.log (map untold is) (split_order order k p at) (walked_now system rules before order olds k w values is g count) (told_untold g.log olds is g.told)
      port c (untold x) port_is of (slice_get-map untold is port.component.0 ∙ ap (option_map untold) x_is))

  pub asked : (next : List (Option ℤ)) (news : List Instance) → TakesTurn system rules p values next is news (Ok tt) → Gathers system rules before order olds (k + 1) w next news
  asked next news turn =
      let t = turn.says.1 in
      let v = rules.takes p t.port values (value values p) turn.says.0 in
      let same : slice_set values p (value_after system rules values p turn.says.0) ≡ next = ap (λ (x : Option ℤ). slice_set values p x) (value_after-is system rules values p t.port turn.says.0 t.is) ∙ sym t.next_is in
      rested system rules before order olds (k + 1) w next news g.turns g.ordered g.may (shapes_same turn.log is news turn.told ∙ g.alike)
      (ap length t.next_is ∙ length-set values p _ ∙ g.places) (subst (AreFitting system) same (turn_fits system rules g.turns values g.places g.fits p turn.says.0)) (g.log ++ turn.log) (told_on olds is news g.log turn.log g.told turn.told)
      (let lt = slice_get_within order k p at in omega (arith, lt)) count (g.none_passed count) g.passed_few g.kind
      (Went (take (k + 1) order) (take k order) p turn.says.0 values next (g.log ++ turn.log) g.log turn.log (more_order order k p at) refl (walked_now system rules before order olds k w values is g count) t)

  pub ends : (next : List (Option ℤ)) (news : List Instance) (bad : BadAnswer) → TakesTurn system rules p values next is news (Err bad) → AreFitting system next × EndsBadly system rules before order olds news bad
  ends next news bad turn = (
    subst (AreFitting system) (sym turn.says.2) g.fits,
    record {
      taken = take k order;
      p = p;
      rest = drop (k + 1) order;
      values = values;
      order_is = split_order order k p at;
      prefix = g.log;
      last = turn.says.0;
      walked = walked_now system rules before order olds k w values is g count;
      told = subst (λ (l : List Sent). Told (g.log ++ l) olds news) turn.says.1 (told_on olds is news g.log turn.log g.told turn.told);
      stops = turn.says.3;
    },
  )
