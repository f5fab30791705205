-- What a walk takes of its rules and its order for granted, where the system is sound: each turn is about its source and its Clocks alone, and comes after them.
use Rattle.std.proofs.Common.{◌≡◌, ℕ, ◌<◌, ℤ, Bool, true, false, List, [], ◌∷◌, ◌++◌, Option, Some, None, Contains, append_assoc, inl, inr, refl, sym, ap, ◌∙◌, subst, length}
use Rattle.std.specs.Prelude.{◌==◌, ◌&&◌, ◌||◌, if◌then◌else◌, not, option_map, slice_get}
use Rattle.std.specs.List.{list_any}
use Rattle.std.specs.Option.{option_map_or}
use Rattle.std.proofs.lemmas.Bool.{eqb-true, false≢true}
use Rattle.std.proofs.lemmas.List.{nil_from_length}
use Rattle.std.proofs.lemmas.Option.{same_Some, slice_get_within}
use Rattle.std.proofs.lemmas.List.Elements.{Contains-append_left, Contains-append_right}
use Rattle.sim_base.specs.declared.numbers.PortId.{PortId}
use Rattle.fmi_calls.specs.Kinds.{kind_of}
use Rattle.fmi_calls.specs.declared.call.Call.{Call}
use Rattle.fmi_calls.specs.declared.call.Call.TheVariants as C
use Rattle.fmi_calls.specs.declared.call.Kind.{Kind}
use Rattle.fmi_calls.specs.declared.call.Kind.TheVariants as K
use Rattle.fmi_calls.specs.declared.call.Reply.{Reply}
use Rattle.system_model.specs.Needs.{Needs, ByFeed, ByClock, NeedsInitially, InitiallyByFeed, is_unclocked, is_unclocked_at}
use Rattle.system_model.specs.Orders.{IsOrder}
use Rattle.system_model.specs.Ports.{is_clock_role, port_numbers, source_of}
use Rattle.system_model.specs.Sound.{IsSound}
use Rattle.system_model.specs.Values.{is_active, is_present, value}
use Rattle.system_model.specs.declared.system.Feed.{Feed}
use Rattle.system_model.specs.declared.system.Port.{Port}
use Rattle.system_model.specs.declared.system.Role.{Role}
use Rattle.system_model.specs.declared.system.Role.TheVariants.{Input, Output, ClockInput, ClockOutput, TimeClock}
use Rattle.system_model.specs.declared.system.System.{System}
use Rattle.run_model.specs.Equations.{fed, source_value}
use Rattle.run_model.specs.Initial.{is_read}
use Rattle.run_model.proofs.CallerLemmas.{fed_same, none_in}
use Rattle.event_iteration.specs.Initialization.{asks_initially, initially, is_set_from_feed, is_silent_initially, takes_initially}
use Rattle.event_iteration.specs.Instants.{asks_in_instant, in_instant, is_silent_in_instant, takes_in_instant}
use Rattle.event_iteration.specs.Waits.{AreTurns, OfClock, OfSource, ReadsOrSets, ReadsPort, StandsAfterReads}
use Rattle.event_iteration.proofs.Gathering.{contains_split}
use Rattle.event_iteration.proofs.InInstant.{takes_fitting}
use Rattle.event_iteration.proofs.Permits.{taken_fits}
use Rattle.event_iteration.proofs.Turned.{contains_first, contains_next}

-- ---- each turn is about its source and its Clocks alone

clocks_read : (xs : List PortId) (V W : List (Option ℤ)) → ((q : ℕ) → Contains (port_numbers xs) q → value V q ≡ value W q) →
    list_any (λ (c : PortId). is_active (value V c.0)) xs ≡ list_any (λ (c : PortId). is_active (value W c.0)) xs
clocks_read [] V W h = refl
clocks_read (x ∷ xs) V W h =
    let here : is_active (value V x.0) ≡ is_active (value W x.0) = ap is_active (h x.0 (contains_first x.0 (port_numbers xs))) in
    let there : list_any (λ (c : PortId). is_active (value V c.0)) xs ≡ list_any (λ (c : PortId). is_active (value W c.0)) xs =
    clocks_read xs V W (λ q m. h q (contains_next x.0 q (port_numbers xs) m)) in
    ap (λ b. b || list_any (λ (c : PortId). is_active (value V c.0)) xs) here ∙ ap (λ b. is_active (value W x.0) || b) there

if_same : {X : Type 0} (b : Bool) (x y : Option X) → (b ≡ true → x ≡ y) → (if b then x else None) ≡ (if b then y else None)
if_same true x y h = h refl
if_same false x y h = refl

module _ (system : System) (p : ℕ) (port : Port) (V W : List (Option ℤ)) (is : slice_get system.ports p ≡ Some port) (alike : (q : ℕ) → ReadsPort system p q → value V q ≡ value W q) where
  present_same : is_present port V ≡ is_present port W
  present_same = ap (λ b. is_clock_role port.role || length port.clocks == 0 || b) (clocks_read port.clocks V W (λ q m. alike q (OfClock port is m)))

  source_same : (feed : Feed) → source_of port.role ≡ Some feed.from.0 → source_value feed V ≡ source_value feed W
  source_same feed from = alike feed.from.0 (OfSource port is from)

  fed_alike : (feed : Feed) → source_of port.role ≡ Some feed.from.0 → fed port.kind feed V ≡ fed port.kind feed W
  fed_alike feed from = fed_same port.kind feed V W (source_same feed from)

  asks_alike : (role : Role) → port.role ≡ role → (events first ticks : Bool) → asks_in_instant role port events first ticks V ≡ asks_in_instant role port events first ticks W
  asks_alike (Input (Some feed)) same events first ticks =
      ap (λ b. if events && b then option_map (λ x. C.Set port.kind port.reference x) (fed port.kind feed V) else None) present_same
      ∙ ap (λ o. if events && is_present port W then option_map (λ x. C.Set port.kind port.reference x) o else None) (fed_alike feed (ap source_of same))
  asks_alike Output same events first ticks = ap (λ b. if (if events then b else first) then Some (C.Get port.kind port.reference) else None) present_same
  asks_alike (ClockInput (Some feed)) same events first ticks = ap (λ o. if is_active o then Some (C.SetClock port.reference) else None) (source_same feed (ap source_of same))
  asks_alike role same events first ticks = refl

  takes_alike : (role : Role) → port.role ≡ role → (ticks : Bool) (last : Option ℤ) (reply : Option Reply) → takes_in_instant role port ticks V last reply ≡ takes_in_instant role port ticks W last reply
  takes_alike (Input (Some feed)) same ticks last reply =
      ap (λ b. if b then fed port.kind feed V else last) present_same ∙ ap (λ o. if is_present port W then o else last) (fed_alike feed (ap source_of same))
  takes_alike (ClockInput (Some feed)) same ticks last reply = source_same feed (ap source_of same)
  takes_alike role same ticks last reply = refl

  asks_first : (role : Role) → port.role ≡ role → (read : Bool) → asks_initially role system.ports read port V ≡ asks_initially role system.ports read port W
  asks_first (Input (Some feed)) same read =
      if_same (is_set_from_feed system.ports port feed) _ _ (λ set. ap (λ o. option_map (λ x. C.Set port.kind port.reference x) o) (fed_alike feed (ap source_of same)))
  asks_first role same read = refl

  takes_first : (role : Role) → port.role ≡ role → (reply : Option Reply) → takes_initially role system.ports port V reply ≡ takes_initially role system.ports port W reply
  takes_first (Input (Some feed)) same reply = if_same (is_set_from_feed system.ports port feed) _ _ (λ set. fed_alike feed (ap source_of same))
  takes_first role same reply = refl

-- ---- a Clock is neither read nor set as a variable is

not_either : (call : Call) (kind : Kind) → kind_of call ≡ kind → (kind ≡ K.Get → ⊥) → (kind ≡ K.Set → ⊥) → ReadsOrSets (kind_of call) → ⊥
not_either call kind is get set (inl e) = get (sym is ∙ e)
not_either call kind is get set (inr e) = set (sym is ∙ e)

sets_clock : (b : Bool) (port : Port) (call : Call) → (if b then Some (C.SetClock port.reference) else None) ≡ Some call → ReadsOrSets (kind_of call) → ⊥
sets_clock true port call h = not_either call K.SetClock (ap kind_of (sym (same_Some (C.SetClock port.reference) call h))) (λ e. absurd (cc)) (λ e. absurd (cc))
sets_clock false port call h = absurd (cc)

plain_in_instant : (role : Role) (port : Port) (events first ticks : Bool) (values : List (Option ℤ)) (call : Call) → is_clock_role role ≡ true → asks_in_instant role port events first ticks values ≡ Some call → ReadsOrSets (kind_of call) → ⊥
plain_in_instant (Input feed) port events first ticks values call clock h = absurd (false≢true clock)
plain_in_instant Output port events first ticks values call clock h = absurd (false≢true clock)
plain_in_instant (ClockInput None) port events first ticks values call clock h = absurd (cc)
plain_in_instant (ClockInput (Some feed)) port events first ticks values call clock h = sets_clock (is_active (source_value feed values)) port call h
plain_in_instant ClockOutput port events first ticks values call clock h = not_either call K.GetClock (ap kind_of (sym (same_Some (C.GetClock port.reference) call h))) (λ e. absurd (cc)) (λ e. absurd (cc))
plain_in_instant (TimeClock timing) port events first ticks values call clock h = sets_clock ticks port call h

plain_initially : (role : Role) (ports : List Port) (read : Bool) (port : Port) (values : List (Option ℤ)) (call : Call) → is_clock_role role ≡ true → asks_initially role ports read port values ≡ Some call → ⊥
plain_initially (Input feed) ports read port values call clock h = absurd (false≢true clock)
plain_initially Output ports read port values call clock h = absurd (false≢true clock)
plain_initially (ClockInput feed) ports read port values call clock h = absurd (cc)
plain_initially ClockOutput ports read port values call clock h = absurd (cc)
plain_initially (TimeClock timing) ports read port values call clock h = absurd (cc)

pub turns_in_instant : (system : System) → IsSound system → (ticks : ℕ → Bool) (is_first : Bool) → AreTurns system (in_instant ticks is_first)
turns_in_instant system sound ticks is_first = record {
  asks_same = λ p port c V W is h. asks_alike system p port V W is h port.role refl c.shape.has_event_mode is_first (ticks p);
  takes_same = λ p port V W last reply is h. takes_alike system p port V W is h port.role refl (ticks p) last reply;
  plain = λ p port c values call clock asks sort. plain_in_instant port.role port c.shape.has_event_mode is_first (ticks p) values call clock asks sort;
  fitting = λ p port values last reply is fits fit. takes_fitting system sound ticks is_first p port values last reply is fits fit;
}

pub turns_initially : (system : System) → IsSound system → AreTurns system (initially system)
turns_initially system sound = record {
  asks_same = λ p port c V W is h. asks_first system p port V W is h port.role refl _;
  takes_same = λ p port V W last reply is h. takes_first system p port V W is h port.role refl reply;
  plain = λ p port c values call clock asks sort. plain_initially port.role system.ports (is_read system.ports p) port values call clock asks;
  fitting = λ p port values last reply is fits fit. taken_fits system sound values fits p port is port.role refl reply;
}

-- ---- inputs that send nothing

not_true : (b : Bool) → not b ≡ true → b ≡ false
not_true true h = absurd (false≢true h)
not_true false h = refl

pub silent_in_instant : (port : Port) (values others : List (Option ℤ)) → ((q : ℕ) → Contains (port_numbers port.clocks) q → value others q ≡ value values q) → (role : Role) (events first ticks : Bool) → is_silent_in_instant role port events values ≡ true → asks_in_instant role port events first ticks others ≡ None
silent_in_instant port values others alike (Input None) events first ticks h = refl
silent_in_instant port values others alike (Input (Some feed)) events first ticks h =
    let present : is_present port others ≡ is_present port values = ap (λ b. is_clock_role port.role || length port.clocks == 0 || b) (clocks_read port.clocks others values alike) in
    ap (λ (b : Bool). if b then option_map (λ x. C.Set port.kind port.reference x) (fed port.kind feed others) else None) (ap (λ (b : Bool). events && b) present ∙ not_true (events && is_present port values) h)
silent_in_instant port values others alike Output events first ticks h = absurd (false≢true h)
silent_in_instant port values others alike (ClockInput feed) events first ticks h = absurd (false≢true h)
silent_in_instant port values others alike ClockOutput events first ticks h = absurd (false≢true h)
silent_in_instant port values others alike (TimeClock timing) events first ticks h = absurd (false≢true h)

pub silent_initially : (ports : List Port) (port : Port) (others : List (Option ℤ)) (read : Bool) (role : Role) → is_silent_initially role ports port ≡ true → asks_initially role ports read port others ≡ None
silent_initially ports port others read (Input None) h = refl
silent_initially ports port others read (Input (Some feed)) h = ap (λ (b : Bool). if b then option_map (λ x. C.Set port.kind port.reference x) (fed port.kind feed others) else None) (not_true (is_set_from_feed ports port feed) h)
silent_initially ports port others read Output h = absurd (false≢true h)
silent_initially ports port others read (ClockInput feed) h = absurd (false≢true h)
silent_initially ports port others read ClockOutput h = absurd (false≢true h)
silent_initially ports port others read (TimeClock timing) h = absurd (false≢true h)

-- ---- each port comes after what it reads

-- what stands before a port doesn't come after it
not_after : (IsAmong : ℕ → Type 0) (NeedsOf : ℕ → ℕ → Type 0) (order taken rest : List ℕ) (p q : ℕ) → IsOrder IsAmong NeedsOf order → order ≡ taken ++ p ∷ rest → Contains taken q → Contains rest q → ⊥
not_after IsAmong NeedsOf order taken rest p q ordered is before beyond =
    let r = contains_split rest q beyond in
    let there : order ≡ (taken ++ p ∷ r.0) ++ q ∷ r.1 = is ∙ ap (λ (l : List ℕ). taken ++ p ∷ l) r.2 ∙ sym (append_assoc taken (p ∷ r.0) (q ∷ r.1)) in
    ordered.once (taken ++ p ∷ r.0) r.1 q there (Contains-append_left taken (p ∷ r.0) q before)

reads_need : (system : System) (p q : ℕ) → ReadsPort system p q → Needs system p q
reads_need system p q (OfSource port is from) = ByFeed port is from
reads_need system p q (OfClock port is clock) = ByClock port is clock

pub after_in_instant : (system : System) → IsSound system → StandsAfterReads system (port_numbers system.instant_order)
after_in_instant system sound = record {
  within = sound.instant_order.only;
  once = λ taken rest p is m. sound.instant_order.once taken rest p is m;
  after = λ taken rest p q is reads m.
      not_after (λ (n : ℕ). n < length system.ports) (Needs system) (port_numbers system.instant_order) taken rest p q sound.instant_order is (sound.instant_order.after taken rest p q is (reads_need system p q reads)) m;
}

-- ---- likewise in Initialization Mode, where no port has Clocks

and_right : (a b : Bool) → (a && b) ≡ true → b ≡ true
and_right true b h = h
and_right false b h = absurd (cc)

-- a port without Clocks that is there
record IsBare (system : System) (p : ℕ) : Type 0 where
  port : Port
  is : slice_get system.ports p ≡ Some port
  unclocked : is_unclocked port ≡ true

bare : (system : System) (p : ℕ) → is_unclocked_at system.ports p ≡ true → IsBare system p
bare system p h = by (slice_get system.ports p) refl
  where
    by : (o : Option Port) → slice_get system.ports p ≡ o → IsBare system p
    by (Some port) is = record { port = port; is = is; unclocked = sym (ap (λ (x : Option Port). option_map_or is_unclocked x false) is) ∙ h }
    by None is = absurd (false≢true (sym (ap (λ (x : Option Port). option_map_or is_unclocked x false) is) ∙ h))

no_clock : (system : System) (p q : ℕ) (port : Port) → is_unclocked_at system.ports p ≡ true → slice_get system.ports p ≡ Some port → Contains (port_numbers port.clocks) q → ⊥
no_clock system p q port h is m =
    let unclocked : is_unclocked port ≡ true = sym (ap (λ (x : Option Port). option_map_or is_unclocked x false) is) ∙ h in
    let none : length port.clocks ≡ 0 = eqb-true (length port.clocks) 0 (and_right (not (is_clock_role port.role)) (length port.clocks == 0) unclocked) in
    none_in q (subst (λ (cs : List PortId). Contains (port_numbers cs) q) (nil_from_length port.clocks none) m)

pub after_initially : (system : System) → IsSound system → StandsAfterReads system (port_numbers system.initial_order)
after_initially system sound = record {
  within = λ p m. let b = bare system p (sound.initial_order.only p m) in slice_get_within system.ports p b.port b.is;
  once = λ taken rest p is m. sound.initial_order.once taken rest p is m;
  after = stands;
}
  where
    order : List ℕ
    order = port_numbers system.initial_order

    here : (taken rest : List ℕ) (p : ℕ) → order ≡ taken ++ p ∷ rest → Contains order p
    here taken rest p is = subst (λ (l : List ℕ). Contains l p) (sym is) (Contains-append_right taken (p ∷ rest) p (contains_first p rest))

    later : (taken rest : List ℕ) (p q : ℕ) → order ≡ taken ++ p ∷ rest → Contains rest q → Contains order q
    later taken rest p q is m = subst (λ (l : List ℕ). Contains l q) (sym is) (Contains-append_right taken (p ∷ rest) q (contains_next p q rest m))

    stands : (taken rest : List ℕ) (p q : ℕ) → order ≡ taken ++ p ∷ rest → ReadsPort system p q → Contains rest q → ⊥
    stands taken rest p q is (OfSource port at from) m =
        let needs : NeedsInitially system p q = InitiallyByFeed (sound.initial_order.only p (here taken rest p is)) (sound.initial_order.only q (later taken rest p q is m)) port at from in
        not_after (λ (n : ℕ). is_unclocked_at system.ports n ≡ true) (NeedsInitially system) order taken rest p q sound.initial_order is (sound.initial_order.after taken rest p q is needs) m
    stands taken rest p q is (OfClock port at clock) m = no_clock system p q port (sound.initial_order.only p (here taken rest p is)) at clock
