-- The calls of one FMU in a walk through the ports: what they are, and that none stands twice.
use Rattle.std.proofs.Common.{◌≡◌, ◌⊎◌, inl, inr, ℕ, suc, ◌+◌, ◌<◌, ◌==◌, length, ℤ, Bool, true, false, List, [], ◌∷◌, ◌++◌, Option, Some, None, Contains, refl, sym, ap, ◌∙◌, subst, append_assoc, append-nil, arith, ◌≤◌}
use Rattle.std.specs.Prelude.{All, if◌then◌else◌, option_map}
use Rattle.std.specs.List.{range_with_len, slice_get}
use Rattle.std.specs.Option.{option_and_then, option_map_or}
use Rattle.std.proofs.lemmas.Bool.Decides.{nat_tests}
use Rattle.std.proofs.lemmas.List.Elements.{All-append, All-cons, All-nil, All-weaker, Contains-append_left, Contains-push}
use Rattle.std.proofs.lemmas.Option.{same_Some}
use Rattle.fmi_calls.specs.declared.call.Call.{Call}
use Rattle.fmi_calls.specs.declared.call.Call.TheVariants as C
use Rattle.fmi_calls.specs.declared.call.Reply.{Reply}
use Rattle.fmi_calls.specs.KindFacts.{moves_on}
use Rattle.fmu_peer.specs.Lean.{IsNew, NoneTwiceAfter, seen_after, without_value}
use Rattle.system_model.specs.declared.system.Component.{Component}
use Rattle.system_model.specs.declared.system.Port.{Port}
use Rattle.system_model.specs.declared.system.Role.{Role}
use Rattle.system_model.specs.declared.system.Role.TheVariants.{TimeClock, Input, Output, ClockInput, ClockOutput}
use Rattle.system_model.specs.declared.system.System.{System}
use Rattle.system_model.specs.declared.system.Timing.TheVariants.{Answered, Countdown, Changing}
use Rattle.system_model.specs.Orders.{IsOrder}
use Rattle.system_model.specs.Sound.{IsSound}
use Rattle.system_model.specs.Ports.{is_clock_role, port_numbers}
use Rattle.system_model.proofs.CallerLemmas as S
use Rattle.system_model.proofs.CallerLemmas.{events_of, place_of}
use Rattle.run_model.specs.Equations.{fed, source_value}
use Rattle.run_model.specs.Initial.{is_read}
use Rattle.system_model.specs.Values.{value, is_active, is_present}
use Rattle.slot_calls.specs.Log.{ComponentCall, Sent, component_call, component_calls}
use Rattle.slot_calls.proofs.CallerLemmas.{askings_append}
use Rattle.event_iteration.specs.Explains.{Explains, all_said, call_at, said}
use Rattle.event_iteration.specs.Intervals.{timing_calls, timing_calls_in, timing_calls_of, asks_interval, intervals}
use Rattle.event_iteration.specs.Settings.{port_order, before_step, sets_to}
use Rattle.event_iteration.specs.Turns.{Rules, sent_of}
use Rattle.event_iteration.specs.WalkCalls.{AreNew, Prefix, IsUse, Span, WalksBy, Whole, own, timing_span, use_in, has_events_at, initial_span, instant_span, interval_span, step_span, EachCallOnce}
use Rattle.event_iteration.specs.Initialization.{asks_initially, initially, is_set_from_feed}
use Rattle.event_iteration.specs.Instants.{asks_in_instant, in_instant}
use Rattle.event_iteration.proofs.Setting.{in_order}

-- ---- what the turn of a port asks: it reads or sets the port, or asks for its timing

-- the variable that a call names
abbrev pub reference_in : Call → ℕ
reference_in (C.Get kind reference) = reference
reference_in (C.Set kind reference x) = reference
reference_in (C.GetClock reference) = reference
reference_in (C.SetClock reference) = reference
reference_in (C.GetInterval reference) = reference
reference_in (C.GetShift reference) = reference
reference_in call = 0

-- the call names the port, for such a use
pub record IsOf (span : Span) (port : Port) (call : Call) : Type 0 where
  pub names : reference_in call ≡ port.reference
  pub is_use : IsUse span call

module _ (span : Span) (port : Port) (call : Call) where
  -- where there is one, it is this one
  of_one : (c : Call) → reference_in c ≡ port.reference → IsUse span c → (b : Bool) → (if b then Some c else None) ≡ Some call → IsOf span port call
  of_one c names used true is = subst (IsOf span port) (same_Some _ _ is) (record { names = names; is_use = used })
  of_one c names used false is = absurd (cc)

  -- the Set to a value, where there is one
  of_set : span.from ≤ 2 → 2 < span.below → (b : Bool) (o : Option ℤ) → (if b then option_map (λ x. C.Set port.kind port.reference x) o else None) ≡ Some call → IsOf span port call
  of_set low high b None is = absurd (by b is) where
    by : (b : Bool) → (if b then None else None) ≡ Some call → ⊥
    by true is = cc
    by false is = cc
  of_set low high b (Some x) is = of_one (C.Set port.kind port.reference x) refl (record { from = low; below = high }) b is

-- ---- by the role of the port

initially_of : (role : Role) (ports : List Port) (read e : Bool) (port : Port) (values : List (Option ℤ)) (call : Call) → asks_initially role ports read port values ≡ Some call → IsOf (initial_span e) port call
initially_of (Input (Some feed)) ports read e port values call is = of_set (initial_span e) port call (omega arith) (omega arith) (is_set_from_feed ports port feed) (fed port.kind feed values) is
initially_of Output ports read e port values call is = of_one (initial_span e) port call (C.Get port.kind port.reference) refl (record { from = omega arith; below = omega arith }) read is
initially_of role ports read e port values call is = absurd (cc)

-- without event mode there is no Clock
no_clock : {X : Type 0} → (true ≡ true → false ≡ true) → X
no_clock h = absurd (let wrong : false ≡ true = h refl in cc)

instant_of : (e : Bool) (role : Role) (port : Port) (is_first ticks : Bool) (values : List (Option ℤ)) (call : Call) → (is_clock_role role ≡ true → e ≡ true) → asks_in_instant role port e is_first ticks values ≡ Some call → IsOf (instant_span is_first e) port call
instant_of e (Input None) port is_first ticks values call clock is = absurd (cc)
instant_of true (Input (Some feed)) port is_first ticks values call clock is = of_set (instant_span is_first true) port call (omega arith) (omega arith) (is_present port values) (fed port.kind feed values) is
instant_of true Output port is_first ticks values call clock is =
    of_one (instant_span is_first true) port call (C.Get port.kind port.reference) refl (record { from = omega arith; below = omega arith }) (is_present port values) is
instant_of true (ClockInput (Some feed)) port is_first ticks values call clock is =
    of_one (instant_span is_first true) port call (C.SetClock port.reference) refl (record { from = omega arith; below = omega arith }) (is_active (source_value feed values)) is
instant_of true ClockOutput port is_first ticks values call clock is = of_one (instant_span is_first true) port call (C.GetClock port.reference) refl (record { from = omega arith; below = omega arith }) true is
instant_of true (TimeClock timing) port is_first ticks values call clock is = of_one (instant_span is_first true) port call (C.SetClock port.reference) refl (record { from = omega arith; below = omega arith }) ticks is
instant_of false Output port true ticks values call clock is = of_one (instant_span true false) port call (C.Get port.kind port.reference) refl (record { from = omega arith; below = omega arith }) true is
instant_of false (ClockInput feed) port is_first ticks values call clock is = no_clock clock
instant_of false ClockOutput port is_first ticks values call clock is = no_clock clock
instant_of false (TimeClock timing) port is_first ticks values call clock is = no_clock clock
instant_of e role port is_first ticks values call clock is = absurd (cc)

interval_of : (e : Bool) (role : Role) (port : Port) (v : Option ℤ) (call : Call) → (is_clock_role role ≡ true → e ≡ true) → asks_interval role port v ≡ Some call → IsOf (interval_span e) port call
interval_of true (TimeClock Countdown) port v call plain is = of_one (interval_span true) port call (C.GetInterval port.reference) refl (record { from = omega arith; below = omega arith }) true is
interval_of true (TimeClock Changing) port v call plain is = of_one (interval_span true) port call (C.GetInterval port.reference) refl (record { from = omega arith; below = omega arith }) (is_active v) is
interval_of false (TimeClock timing) port v call plain is = no_clock plain
interval_of e role port v call plain is = absurd (cc)

step_of : (e : Bool) (role : Role) (port : Port) (o : Option ℤ) (call : Call) → (if e then None else sets_to role port o) ≡ Some call → IsOf (step_span e) port call
step_of false (Input (Some feed)) port o call is = of_set (step_span false) port call (omega arith) (omega arith) true o is
step_of e role port o call is = absurd (cc)

-- ---- by rules

-- each call of these rules for the FMU is such a call of its port
abbrev pub AsksFor : System → ℕ → Span → Rules → Type 0
AsksFor system k span rules = (p : ℕ) (port : Port) (c : Component) (values : List (Option ℤ)) (call : Call) → slice_get system.ports p ≡ Some port → port.component.0 ≡ k →
    slice_get system.components k ≡ Some c → rules.asks p port c values ≡ Some call → IsOf span port call

module _ (system : System) (sound : IsSound system) (k : ℕ) where
  abbrev e : Bool
  e = has_events_at system k

  event_here : (c : Component) → slice_get system.components k ≡ Some c → c.shape.has_event_mode ≡ e
  event_here c of = sym (ap (λ (o : Option Component). option_map_or (λ (x : Component). x.shape.has_event_mode) o false) of)

  -- an FMU with a Clock has event mode
  clock_here : (p : ℕ) (port : Port) (c : Component) → slice_get system.ports p ≡ Some port → port.component.0 ≡ k → slice_get system.components k ≡ Some c → is_clock_role port.role ≡ true → c.shape.has_event_mode ≡ true
  clock_here p port c at here of clock =
      let placed = place_of system sound p port at in
      let same : placed.component ≡ c = same_Some _ _ (sym placed.is.of ∙ ap (slice_get system.components) here ∙ of) in
      ap (λ (x : Component). x.shape.has_event_mode) (sym same) ∙ events_of system p port placed clock

  pub initially_asks : AsksFor system k (initial_span e) (initially system)
  initially_asks p port c values call at here of is = initially_of port.role system.ports (is_read system.ports p) e port values call is

  pub instant_asks : (ticks : ℕ → Bool) (is_first : Bool) → AsksFor system k (instant_span is_first e) (in_instant ticks is_first)
  instant_asks ticks is_first p port c values call at here of is =
      subst (λ (x : Bool). IsOf (instant_span is_first x) port call) (event_here c of)
      (instant_of c.shape.has_event_mode port.role port is_first (ticks p) values call (clock_here p port c at here of) is)

  pub interval_asks : (now : List (Option ℤ)) → AsksFor system k (interval_span e) (intervals now)
  interval_asks now p port c values call at here of is =
      subst (λ (x : Bool). IsOf (interval_span x) port call) (event_here c of) (interval_of c.shape.has_event_mode port.role port (value now p) call (clock_here p port c at here of) is)

  pub step_asks : (now : List (Option ℤ)) → AsksFor system k (step_span e) (before_step now)
  step_asks now p port c values call at here of is =
      subst (λ (x : Bool). IsOf (step_span x) port call) (event_here c of) (step_of c.shape.has_event_mode port.role port (value now p) call is)

-- ---- none stands twice in a list

if_on : (b : Bool) (c : Call) (cs ds : List Call) → (if b then c ∷ (cs ++ ds) else cs ++ ds) ≡ (if b then c ∷ cs else cs) ++ ds
if_on true c cs ds = refl
if_on false c cs ds = refl

pub own_append : (k : ℕ) (xs ys : List ComponentCall) → own k (xs ++ ys) ≡ own k xs ++ own k ys
own_append k [] ys = refl
own_append k (a ∷ xs) ys = ap (λ (cs : List Call). if a.component == k then a.call ∷ cs else cs) (own_append k xs ys) ∙ if_on (a.component == k) a.call (own k xs) (own k ys)

-- whatever a Set's value is
pub use_kept : (c : Call) → use_in (without_value c) ≡ use_in c
use_kept (C.Set kind reference x) = refl
use_kept c = refl

reference_kept : (c : Call) → reference_in (without_value c) ≡ reference_in c
reference_kept (C.Set kind reference x) = refl
reference_kept c = refl

-- a call that names a port leaves the FMU where it is
pub use_stays : (c : Call) → 0 < use_in c → moves_on c ≡ false
use_stays (C.Get kind reference) h = refl
use_stays (C.Set kind reference x) h = refl
use_stays (C.GetClock reference) h = refl
use_stays (C.SetClock reference) h = refl
use_stays (C.GetInterval reference) h = refl
use_stays (C.GetShift reference) h = refl
use_stays c h = absurd (omega (arith, h))

-- two calls that differ but for the value of a Set
abbrev pub Differ : Call → Call → Type 0
Differ c d = without_value c ≡ without_value d → ⊥

abbrev pub seen_after_all : List Call → List Call → List Call
seen_after_all seen [] = seen
seen_after_all seen (c ∷ cs) = seen_after_all (seen_after seen c) cs

pub twice_on : (seen a b : List Call) → NoneTwiceAfter seen a → NoneTwiceAfter (seen_after_all seen a) b → NoneTwiceAfter seen (a ++ b)
twice_on seen [] b h k = k
twice_on seen (c ∷ a) b h k = (h.0, twice_on (seen_after seen c) a b h.1 k)

-- ---- the calls of turns

module _ (system : System) (sound : IsSound system) (k : ℕ) (span : Span) (names : 0 < span.from) where
  -- a call of the FMU for the port at this place
  record IsAt (p : ℕ) (call : Call) : Type 0 where
    port : Port
    is : slice_get system.ports p ≡ Some port
    here : port.component.0 ≡ k
    of : IsOf span port call

  -- its calls for a port: none, one, or two that differ
  data OfPort (p : ℕ) (calls : List Call) : Type 0 where
    NoneHere : calls ≡ [] → OfPort p calls
    OneHere : (c : Call) → IsAt p c → calls ≡ c ∷ [] → OfPort p calls
    TwoHere : (c d : Call) → IsAt p c → IsAt p d → Differ c d → calls ≡ c ∷ d ∷ [] → OfPort p calls

  -- those for several, in their order
  abbrev Turned : List ℕ → List Call → Type 0
  Turned [] calls = calls ≡ []
  Turned (p ∷ ps) calls = (first : List Call) × (more : List Call) × (calls ≡ first ++ more) × OfPort p first × Turned ps more

  turned_on : (ps qs : List ℕ) (a b : List Call) → Turned ps a → Turned qs b → Turned (ps ++ qs) (a ++ b)
  turned_on [] qs a b t u = subst (λ (l : List Call). Turned qs (l ++ b)) (sym t) u
  turned_on (p ∷ ps) qs a b (first, more, is, mine, rest) u = (first, more ++ b, ap (λ (l : List Call). l ++ b) is ∙ append_assoc first more b, mine, turned_on ps qs more b rest u)

  -- ---- none stands twice

  abbrev Uses : Call → Type 0
  Uses = IsUse span

  port_uses : (p : ℕ) (calls : List Call) → OfPort p calls → All Uses calls
  port_uses p calls (NoneHere e) = subst (All Uses) (sym e) (All-nil Uses)
  port_uses p calls (OneHere c at e) = subst (All Uses) (sym e) (All-cons Uses c [] at.of.is_use (All-nil Uses))
  port_uses p calls (TwoHere c d at there differ e) = subst (All Uses) (sym e) (All-cons Uses c (d ∷ []) at.of.is_use (All-cons Uses d [] there.of.is_use (All-nil Uses)))

  turned_uses : (ps : List ℕ) (calls : List Call) → Turned ps calls → All Uses calls
  turned_uses [] calls t = subst (All Uses) (sym t) (All-nil Uses)
  turned_uses (p ∷ ps) calls (first, more, is, mine, rest) = subst (All Uses) (sym is) (All-append Uses first more (port_uses p first mine) (turned_uses ps more rest))

  -- a call of an earlier use, or for a port that was taken
  abbrev IsOld : List ℕ → Call → Type 0
  IsOld pre c = (use_in c < span.from) ⊎ ((q : ℕ) × Contains pre q × IsAt q c)

  older : (pre : List ℕ) (p : ℕ) (seen : List Call) → All (IsOld pre) seen → All (IsOld (pre ++ p ∷ [])) seen
  older pre p seen all = All-weaker (IsOld pre) (IsOld (pre ++ p ∷ [])) more seen all where
    more : (c : Call) → IsOld pre c → IsOld (pre ++ p ∷ []) c
    more c (inl early) = inl early
    more c (inr (q, m, at)) = inr (q, Contains-append_left pre (p ∷ []) q m, at)

  module _ (pre : List ℕ) (p : ℕ) (fresh : Contains pre p → ⊥) where
    is_new : (call : Call) → IsAt p call → (seen : List Call) → All (IsOld pre) seen → IsNew call seen
    is_new call at seen all = All-weaker (IsOld pre) (λ (c : Call). Differ c call) differ seen all where
      differ : (c : Call) → IsOld pre c → Differ c call
      differ c (inl early) e = absurd (let same : use_in c ≡ use_in call = sym (use_kept c) ∙ ap use_in e ∙ use_kept call in let u = at.of.is_use.from in omega (arith, early, same, u))
      differ c (inr (q, m, b)) e =
          let same : reference_in c ≡ reference_in call = sym (reference_kept c) ∙ ap reference_in e ∙ reference_kept call in
          fresh (subst (Contains pre) (S.own system sound q p b.port at.port b.is at.is (b.here ∙ sym at.here) (sym b.of.names ∙ same ∙ at.of.names)) m)

    seen_one : (call : Call) → IsAt p call → (seen : List Call) → seen_after seen call ≡ call ∷ seen
    seen_one call at seen = ap (λ (b : Bool). if b then call ∷ [] else call ∷ seen) (use_stays call (let u = at.of.is_use.from in omega (arith, names, u)))

    old_one : (call : Call) → IsAt p call → (seen : List Call) → All (IsOld (pre ++ p ∷ [])) seen → All (IsOld (pre ++ p ∷ [])) (seen_after seen call)
    old_one call at seen all = subst (All (IsOld (pre ++ p ∷ []))) (sym (seen_one call at seen)) (All-cons (IsOld (pre ++ p ∷ [])) call seen (inr (p, Contains-push pre p, at)) all)

    -- what the calls of one turn leave
    abbrev Leaves : List Call → List Call → Type 0
    Leaves seen calls = NoneTwiceAfter seen calls × All (IsOld (pre ++ p ∷ [])) (seen_after_all seen calls)

    port_once : (calls : List Call) → OfPort p calls → (seen : List Call) → All (IsOld pre) seen → Leaves seen calls
    port_once calls (NoneHere e) seen all = subst (Leaves seen) (sym e) (tt, older pre p seen all)
    port_once calls (OneHere c at e) seen all = subst (Leaves seen) (sym e) (((λ once. is_new c at seen all), tt), old_one c at seen (older pre p seen all))
    port_once calls (TwoHere c d at there differ e) seen all = subst (Leaves seen) (sym e) (
      ((λ once. is_new c at seen all), ((λ once. subst (IsNew d) (sym (seen_one c at seen)) (All-cons (λ (x : Call). Differ x d) c seen differ (is_new d there seen all))), tt)),
      old_one d there (seen_after seen c) (old_one c at seen (older pre p seen all)),
    )

  module _ {IsAmong : ℕ → Type 0} {NeedsOf : ℕ → ℕ → Type 0} (order : List ℕ) (ordered : IsOrder IsAmong NeedsOf order) where
    turned_once : (pre ps left : List ℕ) (calls : List Call) → order ≡ pre ++ (ps ++ left) → Turned ps calls → (seen : List Call) → All (IsOld pre) seen → NoneTwiceAfter seen calls
    turned_once pre [] left calls is t seen all = subst (NoneTwiceAfter seen) (sym t) tt
    turned_once pre (p ∷ ps) left calls is (first, more, calls_are, of, rest) seen all =
        let here = port_once pre p (ordered.once pre (ps ++ left) p is) first of seen all in
        subst (NoneTwiceAfter seen) (sym calls_are) (twice_on seen first more here.0
        (turned_once (pre ++ p ∷ []) ps left more (is ∙ sym (append_assoc pre (p ∷ []) (ps ++ left))) rest (seen_after_all seen first) here.1))

    turned_new : (taken left : List ℕ) (calls : List Call) → order ≡ taken ++ left → Turned taken calls → AreNew span calls
    turned_new taken left calls is t = record {
      names = names;
      uses = turned_uses taken calls t;
      once = λ seen early. turned_once [] taken left calls is t seen (All-weaker (λ (c : Call). use_in c < span.from) (IsOld []) (λ c e. inl e) seen early);
    }

    -- ---- of a walk

    module _ (rules : Rules) (asks : AsksFor system k span rules) (before : List (Option ℤ)) where
      of_own : (p : ℕ) (port : Port) → slice_get system.ports p ≡ Some port → (c : Component) → slice_get system.components port.component.0 ≡ Some c → (values : List (Option ℤ)) (call : Call) → rules.asks p port c values ≡ Some call →
          (b : Bool) → (port.component.0 == k) ≡ b → OfPort p (if b then call ∷ [] else [])
      of_own p port at c of values call is false same = NoneHere refl
      of_own p port at c of values call is true same =
          let here : port.component.0 ≡ k = grind (arith, nat_tests) in
          OneHere call (record { port = port; is = at; here = here; of = asks p port c values call at here (ap (slice_get system.components) (sym here) ∙ of) is }) refl

      said_turned : (values : List (Option ℤ)) (replies : ℕ → Option Reply) (p : ℕ) → OfPort p (own k (component_calls (said system rules values replies p)))
      said_turned values replies p = of_port (slice_get system.ports p) refl where
        of_call : (port : Port) → slice_get system.ports p ≡ Some port → (c : Component) → slice_get system.components port.component.0 ≡ Some c → (call : Option Call) → rules.asks p port c values ≡ call → (reply : Option Reply) →
            OfPort p (own k (component_calls (sent_of port.component.0 call reply)))
        of_call port at c of None is reply = NoneHere refl
        of_call port at c of (Some call) is None = NoneHere refl
        of_call port at c of (Some call) is (Some reply) = of_own p port at c of values call is (port.component.0 == k) refl

        of_component : (port : Port) → slice_get system.ports p ≡ Some port → (o : Option Component) → slice_get system.components port.component.0 ≡ o →
            OfPort p (own k (component_calls (sent_of port.component.0 (option_and_then (λ (c : Component). rules.asks p port c values) o) (replies p))))
        of_component port at None of = NoneHere refl
        of_component port at (Some c) of = of_call port at c of (rules.asks p port c values) refl (replies p)

        of_port : (o : Option Port) → slice_get system.ports p ≡ o → OfPort p (own k (component_calls (option_map_or (λ (port : Port). sent_of port.component.0 (call_at system rules values p port) (replies p)) o [])))
        of_port None at = NoneHere refl
        of_port (Some port) at = of_component port at (slice_get system.components port.component.0) refl

      all_turned : (values : List (Option ℤ)) (replies : ℕ → Option Reply) (ps : List ℕ) → Turned ps (own k (component_calls (all_said system rules values replies ps)))
      all_turned values replies [] = refl
      all_turned values replies (p ∷ ps) =
          let a = said system rules values replies p in
          let b = all_said system rules values replies ps in
          (own k (component_calls a), own k (component_calls b), ap (own k) (askings_append a b) ∙ own_append k (component_calls a) (component_calls b), said_turned values replies p, all_turned values replies ps)

      explains_turned : (taken : List ℕ) (values : List (Option ℤ)) (log : List Sent) → Explains system rules before taken values log → Turned taken (own k (component_calls log))
      explains_turned taken values log e = subst (λ (l : List Sent). Turned taken (own k (component_calls l))) (sym e.log_is) (all_turned values e.replies taken)

      pub walk_new : (log : List Sent) → WalksBy system rules before order log → AreNew span (own k (component_calls log))
      walk_new log (Whole values _ e) = turned_new order [] (own k (component_calls log)) (sym (append-nil order)) (explains_turned order values log e)
      walk_new log (Prefix bad values _ u) =
          let s = u.stops in
          let mine = own k (component_calls u.prefix) in
          let its = own k (component_call u.last ∷ []) in
          let last : OfPort u.p its =
          subst (λ (n : ℕ). OfPort u.p (own k (record { component = n; call = u.last.exchange.call } ∷ []))) (sym s.sent_to) (of_own u.p s.port s.is s.component s.of values u.last.exchange.call s.asks (s.port.component.0 == k) refl) in
          turned_new (u.taken ++ u.p ∷ []) u.rest (own k (component_calls log)) (u.order_is ∙ sym (append_assoc u.taken (u.p ∷ []) u.rest))
          (subst (Turned (u.taken ++ u.p ∷ [])) (sym (ap (λ (l : List Sent). own k (component_calls l)) u.log_is ∙ ap (own k) (askings_append u.prefix (u.last ∷ [])) ∙ own_append k (component_calls u.prefix) (component_call u.last ∷ [])))
          (turned_on u.taken (u.p ∷ []) mine its (explains_turned u.taken values u.prefix u.told) (its, [], sym (append-nil its), last, refl)))

-- ---- the timing of fixed and changing Clocks

module _ (system : System) (sound : IsSound system) (k : ℕ) where
  abbrev names : 0 < timing_span.from
  names = omega arith

  timing_two : (p : ℕ) (port : Port) → slice_get system.ports p ≡ Some port → (b : Bool) → (port.component.0 == k) ≡ b →
      OfPort system sound k timing_span names p (if b then C.GetInterval port.reference ∷ (if b then C.GetShift port.reference ∷ [] else []) else (if b then C.GetShift port.reference ∷ [] else []))
  timing_two p port at true same =
      let here : port.component.0 ≡ k = grind (arith, nat_tests) in
      TwoHere (C.GetInterval port.reference) (C.GetShift port.reference)
      (record { port = port; is = at; here = here; of = record { names = refl; is_use = record { from = omega arith; below = omega arith } } })
      (record { port = port; is = at; here = here; of = record { names = refl; is_use = record { from = omega arith; below = omega arith } } }) (λ e. absurd (cc)) refl
  timing_two p port at false same = NoneHere refl

  timing_one : (p : ℕ) (port : Port) → slice_get system.ports p ≡ Some port → (b : Bool) → (port.component.0 == k) ≡ b → OfPort system sound k timing_span names p (if b then C.GetShift port.reference ∷ [] else [])
  timing_one p port at true same =
      let here : port.component.0 ≡ k = grind (arith, nat_tests) in
      OneHere (C.GetShift port.reference) (record { port = port; is = at; here = here; of = record { names = refl; is_use = record { from = omega arith; below = omega arith } } }) refl
  timing_one p port at false same = NoneHere refl

  timing_of : (p : ℕ) (port : Port) → slice_get system.ports p ≡ Some port → (role : Role) → OfPort system sound k timing_span names p (own k (timing_calls_of role port))
  timing_of p port at (TimeClock Answered) = timing_two p port at (port.component.0 == k) refl
  timing_of p port at (TimeClock Changing) = timing_one p port at (port.component.0 == k) refl
  timing_of p port at role = NoneHere refl

  timing_from : (p : ℕ) (ports : List Port) → ((j : ℕ) (port : Port) → slice_get ports j ≡ Some port → slice_get system.ports (p + j) ≡ Some port) → Turned system sound k timing_span names (range_with_len p (length ports)) (own k (timing_calls_in ports))
  timing_from p [] there = refl
  timing_from p (port ∷ ports) there = (
    own k (timing_calls_of port.role port),
    own k (timing_calls_in ports),
    own_append k (timing_calls_of port.role port) (timing_calls_in ports),
    timing_of p port (subst (λ (q : ℕ). slice_get system.ports q ≡ Some port) (omega arith) (there 0 port refl)) port.role,
    timing_from (p + 1) ports (λ j x at. subst (λ (q : ℕ). slice_get system.ports q ≡ Some x) (omega arith) (there (suc j) x at)),
  )

  pub timing_new : AreNew timing_span (own k (timing_calls system))
  timing_new = turned_new system sound k timing_span names (port_order system) (in_order system) (port_order system) [] (own k (timing_calls system)) (sym (append-nil (port_order system)))
      (timing_from 0 system.ports (λ j port at. subst (λ (q : ℕ). slice_get system.ports q ≡ Some port) (omega arith) at))

-- ---- all walks

names_by : (span : Bool → Span) → 0 < (span true).from → 0 < (span false).from → (e : Bool) → 0 < (span e).from
names_by span with_events without true = with_events
names_by span with_events without false = without

pub each_call_once : EachCallOnce
each_call_once system sound = record {
  initial = λ before log walks k. walk_new system sound k (initial_span (has_events_at system k)) (omega arith) (port_numbers system.initial_order) sound.initial_order (initially system) (initially_asks system sound k) before log walks;
  instant = λ ticks is_first before log walks k.
      let e = has_events_at system k in
      walk_new system sound k (instant_span is_first e) (names_by (instant_span is_first) (omega arith) (names_by (λ b. instant_span b false) (omega arith) (omega arith) is_first) e) (port_numbers system.instant_order) sound.instant_order (in_instant ticks is_first) (instant_asks system sound k ticks is_first) before log walks;
  interval = λ values before log walks k.
      let e = has_events_at system k in
      walk_new system sound k (interval_span e) (names_by interval_span (omega arith) (omega arith) e) (port_order system) (in_order system) (intervals values) (interval_asks system sound k values) before log walks;
  step = λ values before log walks k.
      let e = has_events_at system k in
      walk_new system sound k (step_span e) (names_by step_span (omega arith) (omega arith) e) (port_order system) (in_order system) (before_step values) (step_asks system sound k values) before log walks;
  timing = λ k. timing_new system sound k;
}
