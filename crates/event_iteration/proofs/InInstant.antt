-- The walk through an instant: each call of it is permitted, and each value is one of its port's type.
use Rattle.std.proofs.Common.{◌≡◌, ◌⊎◌, inl, inr, ℕ, ◌<◌, ℤ, pos, Bool, true, false, not, List, [], ◌∷◌, ◌++◌, Option, Some, None, Contains, refl, sym, ap, ◌∙◌, subst, append-nil, arith, length, get_or}
use Rattle.std.specs.Prelude.{All, IfSome, ◌&&◌, ◌||◌, ◌==◌, if◌then◌else◌, is_some, option_map, slice_get}
use Rattle.std.specs.List.{list_any}
use Rattle.std.specs.Ordering.{int_eq}
use Rattle.std.proofs.lemmas.Bool.{eq-eqb}
use Rattle.std.proofs.lemmas.Bool.Decides.{Decides-int_eq}
use Rattle.std.proofs.lemmas.List.{length-map}
use Rattle.std.proofs.lemmas.Option.{same_Some, slice_get-map, slice_get_within}
use Rattle.sim_base.specs.declared.numbers.PortId.{PortId}
use Rattle.value_types.specs.Shape.{is_at, is_clock, is_clock_type, is_input, is_output, is_unclocked as has_no_clocks, variable_at}
use Rattle.value_types.specs.Values.{Fits, is_fitting, number_of, word_value}
use Rattle.value_types.specs.declared.shape.Causality.{Causality}
use Rattle.value_types.specs.declared.shape.Shape.{Shape}
use Rattle.value_types.specs.declared.shape.Variable.{Variable}
use Rattle.value_types.specs.declared.values.PortType.{PortType}
use Rattle.value_types.specs.declared.values.PortType.TheVariants.{Clock}
use Rattle.fmi_calls.specs.declared.call.Call.{Call}
use Rattle.fmi_calls.specs.declared.call.Call.TheVariants as C
use Rattle.fmi_calls.specs.declared.call.Content.TheVariants as A
use Rattle.fmi_calls.specs.declared.call.Grade.TheVariants as G
use Rattle.fmi_calls.specs.declared.call.Reply.{Reply}
use Rattle.fmi_calls.specs.declared.call.Reply.TheVariants as R
use Rattle.fmi_calls.specs.declared.phase.InstanceState.{InstanceState}
use Rattle.fmi_calls.specs.declared.phase.InstanceState.TheVariants as P
use Rattle.fmi_calls.specs.Next.{is_tick, marked, running_state}
use Rattle.fmi_calls.specs.Permission as May
use Rattle.fmi_calls.specs.Permission.{Permitted, can_be_read, can_be_set, can_be_ticked, is_input_clock, is_marked, is_output_clock, none_marked}
use Rattle.fmi_calls.specs.Worth.{grade_of}
use Rattle.fmu_peer.specs.CloseAll.{Instance}
use Rattle.fmu_peer.specs.View.{View}
use Rattle.system_model.specs.declared.system.Component.{Component}
use Rattle.system_model.specs.declared.system.Feed.{Feed}
use Rattle.system_model.specs.declared.system.Role.{Role}
use Rattle.system_model.specs.declared.system.Role.TheVariants.{Input, Output, ClockInput, ClockOutput, TimeClock}
use Rattle.system_model.specs.declared.system.Timing.{Timing}
use Rattle.system_model.specs.declared.system.Port.{Port}
use Rattle.system_model.specs.declared.system.System.{System}
use Rattle.system_model.specs.Needs.{ByClock, ByFeed, Needs}
use Rattle.system_model.specs.Ports.{is_clock_role, is_output_role, port_numbers, source_of}
use Rattle.system_model.specs.Sound.{IsSound}
use Rattle.system_model.proofs.CallerLemmas.{all_by_place, at_contains, true_false, clock_at, clock_type_of, events_of, is_input_of, is_output_of, kind_of_clock, place_of}
use Rattle.system_model.specs.Values.{value, is_active, is_present}
use Rattle.run_model.specs.Equations.{fed, source_value, value_in}
use Rattle.run_model.specs.Machines.{AreFitting}
use Rattle.run_model.proofs.CallerLemmas.{fed_fits, fed_same, present_alike, reply_fits, none_in, push_cases}
use Rattle.slot_calls.specs.Log.{Sent, Told, part}
use Rattle.slot_calls.specs.Stage.{shapes, shapes_of}
use Rattle.slot_calls.proofs.CallerLemmas.{part_append}
use Rattle.event_iteration.specs.Instants.{BeginsInstant, HasPlacedClocks, asks_in_instant, in_instant, seen_or, takes_in_instant}
use Rattle.event_iteration.specs.Questions.{AreActive, InstanceMode, mode_of, modes}
use Rattle.event_iteration.specs.Turns.{IsPaired, MayAsk, MayTurn, Turn, Walked}
use Rattle.event_iteration.proofs.Activity.{active_by, active_by-append, active_keeps, any_from, any_some, length-active, marked_here, talks_active}
use Rattle.event_iteration.proofs.Fmus.{exchanges_of, got, part_own_of}
use Rattle.event_iteration.proofs.Marks.{unmarked}
use Rattle.event_iteration.proofs.Permits.{at_under, clock_fed_fits, input_there, no_clocks_there, placed, readable, under, writable}
use Rattle.event_iteration.proofs.Turning.{AsksBy, Gets, IsCallOf, Sets, TakesFitting, Ticks, Touches, after, all_was, calls_of, fits_along, quiet_after, read_alone, shape_here, shape_was, talks_here}
use Rattle.event_iteration.proofs.Walking.{AreAbout, Here, along, by_number, here_at, next_beside, next_here}

-- ---- turns are about what a port needs

module _ (system : System) (p : ℕ) (port : Port) (V W : List (Option ℤ)) (is : slice_get system.ports p ≡ Some port) (alike : (q : ℕ) → Needs system p q → value V q ≡ value W q) where
  present_same : is_present port V ≡ is_present port W
  present_same = present_alike system p port V W is alike

  source_same : (feed : Feed) → source_of port.role ≡ Some feed.from.0 → source_value feed V ≡ source_value feed W
  source_same feed from = alike feed.from.0 (ByFeed port is from)

  fed_alike : (feed : Feed) → source_of port.role ≡ Some feed.from.0 → fed port.kind feed V ≡ fed port.kind feed W
  fed_alike feed from = fed_same port.kind feed V W (source_same feed from)

  asks_alike : (role : Role) → port.role ≡ role → (events first ticks : Bool) → asks_in_instant role port events first ticks V ≡ asks_in_instant role port events first ticks W
  asks_alike (Input (Some feed)) same events first ticks =
      ap (λ b. if events && b then option_map (λ x. C.Set port.kind port.reference x) (fed port.kind feed V) else None) present_same
      ∙ ap (λ o. if events && is_present port W then option_map (λ x. C.Set port.kind port.reference x) o else None) (fed_alike feed (ap source_of same))
  asks_alike Output same events first ticks = ap (λ b. if (if events then b else first) then Some (C.Get port.kind port.reference) else None) present_same
  asks_alike (ClockInput (Some feed)) same events first ticks = ap (λ o. if is_active o then Some (C.SetClock port.reference) else None) (source_same feed (ap source_of same))
  asks_alike role same events first ticks = refl

  takes_alike : (role : Role) → port.role ≡ role → (ticks : Bool) (last : Option ℤ) (reply : Option Reply) → takes_in_instant role port ticks V last reply ≡ takes_in_instant role port ticks W last reply
  takes_alike (Input (Some feed)) same ticks last reply =
      ap (λ b. if b then fed port.kind feed V else last) present_same ∙ ap (λ o. if is_present port W then o else last) (fed_alike feed (ap source_of same))
  takes_alike (ClockInput (Some feed)) same ticks last reply = source_same feed (ap source_of same)
  takes_alike role same ticks last reply = refl

pub about_instant : (system : System) (ticks : ℕ → Bool) (is_first : Bool) → AreAbout (Needs system) system (in_instant ticks is_first)
about_instant system ticks is_first = record {
  asks_same = λ p port c V W is h. asks_alike system p port V W is h port.role refl c.shape.has_event_mode is_first (ticks p);
  takes_same = λ p port V W last reply is h. takes_alike system p port V W is h port.role refl (ticks p) last reply;
}

-- ---- the calls

-- an output is read, with event mode where it is present; a connected input of an FMU with event mode that is present is set to what its path makes of its source's value; an output Clock is asked; and an input Clock is set where its source is active or it ticks
pub data IsAskedInInstant (events : Bool) (port : Port) (values : List (Option ℤ)) (call : Call) : Type 0 where
  ReadsOutput : port.role ≡ Output → (events ≡ true → is_present port values ≡ true) → Gets port call → IsAskedInInstant events port values call
  SetsInput : (feed : Feed) (x : ℤ) → port.role ≡ Input (Some feed) → events ≡ true → is_present port values ≡ true → fed port.kind feed values ≡ Some x → call ≡ C.Set port.kind port.reference x → IsAskedInInstant events port values call
  AsksClock : port.role ≡ ClockOutput → call ≡ C.GetClock port.reference → IsAskedInInstant events port values call
  SetsClock : (feed : Feed) → port.role ≡ ClockInput (Some feed) → is_active (source_value feed values) ≡ true → call ≡ C.SetClock port.reference → IsAskedInInstant events port values call
  Ticking : (timing : Timing) → port.role ≡ TimeClock timing → call ≡ C.SetClock port.reference → IsAskedInInstant events port values call

module _ (port : Port) (values : List (Option ℤ)) (call : Call) where
  gets_if : port.role ≡ Output → (events first present : Bool) → is_present port values ≡ present → (if (if events then present else first) then Some (C.Get port.kind port.reference) else None) ≡ Some call → IsAskedInInstant events port values call
  gets_if same true first true e h = ReadsOutput same (λ x. e) (sym (same_Some _ _ h))
  gets_if same true first false e h = absurd (cc)
  gets_if same false true present e h = ReadsOutput same (λ x. absurd (true_false (sym x))) (sym (same_Some _ _ h))
  gets_if same false false present e h = absurd (cc)

  sets_if : (feed : Feed) → port.role ≡ Input (Some feed) → (events present : Bool) → is_present port values ≡ present → (o : Option ℤ) → fed port.kind feed values ≡ o → (if events && present then option_map (λ x. C.Set port.kind port.reference x) o else None) ≡ Some call →
      IsAskedInInstant events port values call
  sets_if feed same true true e (Some x) from h = SetsInput feed x same refl e from (sym (same_Some _ _ h))
  sets_if feed same events present e o from h = absurd (cc)

  ticks_if : (events : Bool) (b : Bool) → (if b then Some (C.SetClock port.reference) else None) ≡ Some call → (b ≡ true) × (call ≡ C.SetClock port.reference)
  ticks_if events true h = (refl, sym (same_Some _ _ h))
  ticks_if events false h = absurd (cc)

  asked_by : (role : Role) → port.role ≡ role → (events first ticks : Bool) → asks_in_instant role port events first ticks values ≡ Some call → IsAskedInInstant events port values call
  asked_by (Input None) same events first ticks h = absurd (cc)
  asked_by (Input (Some feed)) same events first ticks h = sets_if feed same events (is_present port values) refl (fed port.kind feed values) refl h
  asked_by Output same events first ticks h = gets_if same events first (is_present port values) refl h
  asked_by (ClockInput None) same events first ticks h = absurd (cc)
  asked_by (ClockInput (Some feed)) same events first ticks h = let sets = ticks_if events (is_active (source_value feed values)) h in SetsClock feed same sets.0 sets.1
  asked_by ClockOutput same events first ticks h = AsksClock same (sym (same_Some _ _ h))
  asked_by (TimeClock timing) same events first ticks h = Ticking timing same (ticks_if events ticks h).1

-- each call of an instant is such a call of its port
pub asked_in_instant : (ticks : ℕ → Bool) (is_first : Bool) (p : ℕ) (port : Port) (c : Component) (values : List (Option ℤ)) (call : Call) → (in_instant ticks is_first).asks p port c values ≡ Some call →
    IsAskedInInstant c.shape.has_event_mode port values call
asked_in_instant ticks is_first p port c values call h = asked_by port values call port.role refl c.shape.has_event_mode is_first (ticks p) h

-- the port is read, or set, asked or made active where its FMU has event mode
abbrev pub ReadsOrSets : Component → Port → Call → Type 0
ReadsOrSets c port call = Gets port call ⊎ ((c.shape.has_event_mode ≡ true) × (Sets port call ⊎ Ticks port call))

-- a Clock's FMU has event mode
pub clock_events : (system : System) → IsSound system → (p : ℕ) (port : Port) (c : Component) → slice_get system.ports p ≡ Some port → slice_get system.components port.component.0 ≡ Some c → is_clock_role port.role ≡ true → c.shape.has_event_mode ≡ true
clock_events system sound p port c is of clock =
    let there = place_of system sound p port is in
    ap (λ (x : Component). x.shape.has_event_mode) (same_Some _ _ (sym of ∙ there.is.of)) ∙ events_of system p port there clock

pub reads_or_sets : (system : System) → IsSound system → (ticks : ℕ → Bool) (is_first : Bool) → AsksBy ReadsOrSets system (in_instant ticks is_first)
reads_or_sets system sound ticks is_first p port c values call is of h = by (asked_in_instant ticks is_first p port c values call h)
  where
    by : IsAskedInInstant c.shape.has_event_mode port values call → ReadsOrSets c port call
    by (ReadsOutput output present get) = inl get
    by (SetsInput feed x input events present from set) = inr (events, inl (x, set))
    by (AsksClock output ask) = inr (clock_events system sound p port c is of (ap is_clock_role output), inr (inl ask))
    by (SetsClock feed input active set) = inr (clock_events system sound p port c is of (ap is_clock_role input), inr (inr set))
    by (Ticking timing time set) = inr (clock_events system sound p port c is of (ap is_clock_role time), inr (inr set))

pub touches : (c : Component) (port : Port) (call : Call) → ReadsOrSets c port call → Touches port call
touches c port call (inl get) = inl get
touches c port call (inr (events, touch)) = inr touch

gets_alone : (c d : Component) (port : Port) (call : Call) → c.shape.has_event_mode ≡ false → ReadsOrSets d port call → d.shape ≡ c.shape → Gets port call
gets_alone c d port call none (inl get) same = get
gets_alone c d port call none (inr (events, touch)) same = absurd (true_false (sym events ∙ ap (λ (s : Shape). s.has_event_mode) same ∙ none))

-- ---- the values

seen_fits : (port : Port) (last : Option ℤ) (reply : Option Reply) → IfSome last (Fits port.kind) → IfSome (seen_or port last reply) (Fits port.kind)
seen_fits port last None fit = fit
seen_fits port last (Some reply) fit = reply_fits port.kind reply

fed_or_fits : (kind : _) (b : Bool) (o last : Option ℤ) → IfSome o (Fits kind) → IfSome last (Fits kind) → IfSome (if b then o else last) (Fits kind)
fed_or_fits kind true o last h fit = h
fed_or_fits kind false o last h fit = fit

-- 0 and 1 are values of a Clock
tick_fits : (kind : PortType) → kind ≡ Clock → (ticks : Bool) → Fits kind (if ticks then pos 1 else pos 0)
tick_fits kind clock true = subst (λ k. Fits k (pos 1)) (sym clock) (reply_fits Clock (R.Done false (A.GetClock 1)))
tick_fits kind clock false = subst (λ k. Fits k (pos 0)) (sym clock) (reply_fits Clock (R.Done false (A.GetClock 0)))

pub takes_fitting : (system : System) → IsSound system → (ticks : ℕ → Bool) (is_first : Bool) → TakesFitting system (in_instant ticks is_first)
takes_fitting system sound ticks is_first p port values last reply is fits fit = by port.role refl
  where
    a_clock : is_clock_role port.role ≡ true → port.kind ≡ Clock
    a_clock clock = kind_of_clock system p port (place_of system sound p port is) clock

    by : (role : Role) → port.role ≡ role → IfSome (takes_in_instant role port (ticks p) values last reply) (Fits port.kind)
    by (Input None) same = tt
    by (Input (Some feed)) same = fed_or_fits port.kind (is_present port values) (fed port.kind feed values) last (fed_fits port.kind feed values) fit
    by Output same = seen_fits port last reply fit
    by (ClockInput None) same = tick_fits port.kind (a_clock (ap is_clock_role same)) false
    by (ClockInput (Some feed)) same = clock_fed_fits system sound values fits p feed.from.0 port is (ap is_clock_role same) (ap source_of same)
    by ClockOutput same = seen_fits port last reply fit
    by (TimeClock timing) same = tick_fits port.kind (a_clock (ap is_clock_role same)) (ticks p)

-- ---- a Clock that was taken and is active is so in its FMU

-- a Clock that answers 1 is active
one_of : (b : Bool) (word : ℕ) → is_active (if b then Some (pos word) else None) ≡ true → (word == 1) ≡ true
one_of true word h = equal word h
  where
    equal : (n : ℕ) → int_eq (pos n) (pos 1) ≡ true → (n == 1) ≡ true
    equal n h = let same : pos n ≡ pos 1 = (Decides-int_eq (pos n) (pos 1)).0 h in eq-eqb n 1 (cc)
one_of false word h = absurd (true_false (sym h))

answered_tick : (kind : PortType) → kind ≡ Clock → (shape : Shape) (r : ℕ) (reply : Reply) → grade_of shape (C.GetClock r) reply ≡ G.Good → is_active (value_in kind reply) ≡ true → is_tick reply ≡ true
answered_tick kind clock shape r (R.Done w (A.GetClock word)) good h =
    one_of (is_fitting Clock (number_of Clock word)) word (subst (λ k. is_active (word_value k word) ≡ true) clock h)
answered_tick kind clock shape r (R.Done w (A.Get word)) good h = absurd (cc)
answered_tick kind clock shape r reply good h = absurd (true_false (sym h))

-- the turn of a Clock that becomes active makes it so in its FMU
module _ (shape : Shape) (port : Port) (v : Variable) (active : List Bool) (there : variable_at shape.variables port.reference ≡ Some v) (room : length active ≡ length shape.variables) (clock : is_clock_role port.role ≡ true) (kind : port.kind ≡ Clock) where
  now_marked : is_marked shape (marked shape active port.reference) port.reference ≡ true
  now_marked = marked_here shape active port.reference v there room

  by_set : (b : Bool) → b ≡ true → (reply : Option Reply) → IsPaired shape (if b then Some (C.SetClock port.reference) else None) reply →
      is_marked shape (active_by shape active (exchanges_of (if b then Some (C.SetClock port.reference) else None) reply)) port.reference ≡ true
  by_set true e None paired = absurd paired
  by_set true e (Some x) paired = now_marked
  by_set false e reply paired = absurd (true_false (sym e))

  by_answer : (last : Option ℤ) (reply : Option Reply) → IsPaired shape (Some (C.GetClock port.reference)) reply → is_active (seen_or port last reply) ≡ true →
      is_marked shape (active_by shape active (exchanges_of (Some (C.GetClock port.reference)) reply)) port.reference ≡ true
  by_answer last None paired h = absurd paired
  by_answer last (Some x) paired h =
      ap (λ b. is_marked shape (if b then marked shape active port.reference else active) port.reference) (answered_tick port.kind kind shape port.reference x paired h) ∙ now_marked

  is_ticking : (ticks : Bool) → is_active (Some (if ticks then pos 1 else pos 0)) ≡ true → ticks ≡ true
  is_ticking true h = refl
  is_ticking false h = absurd (true_false (sym h))

  turn_active : (role : Role) → is_clock_role role ≡ true → (events first ticks : Bool) (values : List (Option ℤ)) (last : Option ℤ) (reply : Option Reply) → IsPaired shape (asks_in_instant role port events first ticks values) reply →
      is_active (takes_in_instant role port ticks values last reply) ≡ true → is_marked shape (active_by shape active (exchanges_of (asks_in_instant role port events first ticks values) reply)) port.reference ≡ true
  turn_active (Input feed) c events first ticks values last reply paired h = absurd (true_false (sym c))
  turn_active Output c events first ticks values last reply paired h = absurd (true_false (sym c))
  turn_active (ClockInput None) c events first ticks values last reply paired h = absurd (true_false (sym h))
  turn_active (ClockInput (Some feed)) c events first ticks values last reply paired h = by_set (is_active (source_value feed values)) h reply paired
  turn_active ClockOutput c events first ticks values last reply paired h = by_answer last reply paired h
  turn_active (TimeClock timing) c events first ticks values last reply paired h = by_set ticks (is_ticking ticks h) reply paired

module _ (system : System) (sound : IsSound system) (ticks : ℕ → Bool) (is_first : Bool) where
  -- the Clocks of an FMU that were taken and are active are so after its part of the log
  abbrev pub AreMarked : List ℕ → List (Option ℤ) → List Sent → Type 0
  AreMarked taken values log = (i : ℕ) (c : Component) → slice_get system.components i ≡ Some c → (active : List Bool) → length active ≡ length c.shape.variables →
      (q : ℕ) (port : Port) → Contains taken q → slice_get system.ports q ≡ Some port → port.component.0 ≡ i → is_clock_role port.role ≡ true → is_active (value values q) ≡ true →
      is_marked c.shape (active_by c.shape active (part i log)) port.reference ≡ true

  own_active : (p : ℕ) (reply : Option Reply) (values next : List (Option ℤ)) (prefix sent : List Sent) (turn : Turn system (in_instant ticks is_first) p reply values next sent) (active : List Bool) →
      length active ≡ length turn.component.shape.variables → is_clock_role turn.port.role ≡ true → is_active (takes_in_instant turn.port.role turn.port (ticks p) values (value values p) reply) ≡ true →
      is_marked turn.component.shape (active_by turn.component.shape active (part turn.port.component.0 (prefix ++ sent))) turn.port.reference ≡ true
  own_active p reply values next prefix sent turn active room clock h =
      let shape = turn.component.shape in
      let r = turn.port.reference in
      let k = turn.port.component.0 in
      let call = asks_in_instant turn.port.role turn.port shape.has_event_mode is_first (ticks p) values in
      let part_is : part k (prefix ++ sent) ≡ part k prefix ++ exchanges_of call reply =
      part_append k prefix sent ∙ ap (λ es. part k prefix ++ part k es) turn.sent_is ∙ ap (λ es. part k prefix ++ es) (part_own_of k call reply) in
      ap (λ es. is_marked shape (active_by shape active es) r) part_is
      ∙ ap (λ xs. is_marked shape xs r) (active_by-append shape active (part k prefix) (exchanges_of call reply))
      ∙ turn_active shape turn.port (placed system sound p turn.port turn.is turn.component turn.of shape refl).variable (active_by shape active (part k prefix))
      (under system sound p turn.port turn.is turn.component turn.of shape refl) (length-active shape active (part k prefix) ∙ room) clock
      (kind_of_clock system p turn.port (place_of system sound p turn.port turn.is) clock)
      turn.port.role clock shape.has_event_mode is_first (ticks p) values (value values p) reply turn.paired h

  active_more : (pre : List ℕ) (p : ℕ) (reply : Option Reply) (values next : List (Option ℤ)) (prefix sent : List Sent) → Here (Needs system) pre p → length values ≡ length system.ports → AreMarked pre values prefix →
      Turn system (in_instant ticks is_first) p reply values next sent → AreMarked (pre ++ p ∷ []) next (prefix ++ sent)
  active_more pre p reply values next prefix sent here len was turn i c of active room q port among is at clock h = by_number q p
      (λ same.
      let port_is : turn.port ≡ port = same_Some _ _ (sym turn.is ∙ ap (slice_get system.ports) (sym same) ∙ is) in
      let at_i : turn.port.component.0 ≡ i = ap (λ (x : Port). x.component.0) port_is ∙ at in
      let c_is : turn.component ≡ c = same_Some _ _ (sym turn.of ∙ ap (slice_get system.components) at_i ∙ of) in
      let a_clock : is_clock_role turn.port.role ≡ true = ap (λ (x : Port). is_clock_role x.role) port_is ∙ clock in
      let one : is_active (takes_in_instant turn.port.role turn.port (ticks p) values (value values p) reply) ≡ true = ap is_active (sym (next_here turn len) ∙ ap (value next) (sym same)) ∙ h in
      subst (λ (x : Port). is_marked c.shape (active_by c.shape active (part i (prefix ++ sent))) x.reference ≡ true) port_is
      (subst (λ k. is_marked c.shape (active_by c.shape active (part k (prefix ++ sent))) turn.port.reference ≡ true) at_i
      (subst (λ (d : Component). length active ≡ length d.shape.variables → is_marked d.shape (active_by d.shape active (part turn.port.component.0 (prefix ++ sent))) turn.port.reference ≡ true) c_is
      (λ its. own_active p reply values next prefix sent turn active its a_clock one) room)))
      (λ other.
      let old : Contains pre q = push_cases pre p q among (λ m. m) (λ e. absurd (other (sym e))) in
      ap (λ es. is_marked c.shape (active_by c.shape active es) port.reference) (part_append i prefix sent)
      ∙ ap (λ xs. is_marked c.shape xs port.reference) (active_by-append c.shape active (part i prefix) (part i sent))
      ∙ active_keeps c.shape (active_by c.shape active (part i prefix)) (part i sent) port.reference
      (was i c of active room q port old is at clock (ap is_active (sym (next_beside turn q other)) ∙ h)))

  pub active_along : (before : List (Option ℤ)) → length before ≡ length system.ports → (taken rest : List ℕ) (values : List (Option ℤ)) (log : List Sent) → port_numbers system.instant_order ≡ taken ++ rest →
      Walked system (in_instant ticks is_first) before taken values log → AreMarked taken values log
  active_along before len taken rest values log is walked =
      (along (λ q. q < length system.ports) (Needs system) system (in_instant ticks is_first) before (port_numbers system.instant_order) sound.instant_order len AreMarked
      (λ i c of active room q port among. absurd (none_in q among)) active_more taken rest values log is walked).1

-- ---- permission

-- an instance in the midst of an instant, before the turn of a port
record IsMidway (events : Bool) (port : Port) (values : List (Option ℤ)) (v : View) : Type 0 where
  state : v.phase.state ≡ (if events then P.Event else P.Step)
  unmarked : is_marked v.fixed.shape v.phase.marks port.reference ≡ false
  none : events ≡ false → none_marked v.phase.marks ≡ true
  present : is_clock_role port.role ≡ false → is_present port values ≡ true → is_at (May.is_accessible v.fixed.shape v.phase.active) v.fixed.shape.variables port.reference ≡ true

module _ (system : System) (sound : IsSound system) (values : List (Option ℤ)) (fits : AreFitting system values) (p : ℕ) (port : Port) (is : slice_get system.ports p ≡ Some port) (v : View)
    (c : Component) (of : slice_get system.components port.component.0 ≡ Some c) (shape : v.fixed.shape ≡ c.shape) (midway : IsMidway c.shape.has_event_mode port values v) where
  state_is : (b : Bool) → c.shape.has_event_mode ≡ b → v.phase.state ≡ (if b then P.Event else P.Step)
  state_is b e = midway.state ∙ ap (λ x. if x then P.Event else P.Step) e

  can_read : is_clock_role port.role ≡ false → (b : Bool) → c.shape.has_event_mode ≡ b → (b ≡ true → is_present port values ≡ true) → can_be_read v.phase.state v.fixed.shape v.phase.marks v.phase.active port.reference ≡ true
  can_read plain true e present =
      ap (λ (s : InstanceState). can_be_read s v.fixed.shape v.phase.marks v.phase.active port.reference) (state_is true e) ∙ midway.present plain (present refl)
  can_read plain false e present =
      ap (λ (s : InstanceState). can_be_read s v.fixed.shape v.phase.marks v.phase.active port.reference) (state_is false e)
      ∙ ap (λ b. not b && none_marked v.phase.marks) (ap (λ (s : Shape). s.has_event_mode) shape ∙ e) ∙ midway.none e

  may_read : port.role ≡ Output → (c.shape.has_event_mode ≡ true → is_present port values ≡ true) → Permitted v.fixed.shape v.phase (C.Get port.kind port.reference)
  may_read output present = (
    can_read (ap is_clock_role output) c.shape.has_event_mode refl present,
    readable system sound p port is c of v.fixed.shape shape (ap is_clock_role output) (ap is_output_role output),
  )

  may_write : (feed : Feed) → port.role ≡ Input (Some feed) → c.shape.has_event_mode ≡ true → is_present port values ≡ true → (x : ℤ) → Fits port.kind x → Permitted v.fixed.shape v.phase (C.Set port.kind port.reference x)
  may_write feed input e present x fit = (
    ap (λ (s : InstanceState). can_be_set s v.fixed.shape v.phase.marks v.phase.active port.reference) (state_is true e)
        ∙ ap (λ b. b && is_at (May.is_accessible v.fixed.shape v.phase.active) v.fixed.shape.variables port.reference && not (is_marked v.fixed.shape v.phase.marks port.reference))
        (input_there system sound p port is c of v.fixed.shape shape (ap is_output_role input))
        ∙ ap (λ b. b && not (is_marked v.fixed.shape v.phase.marks port.reference)) (midway.present (ap is_clock_role input) present) ∙ ap not midway.unmarked,
    writable system sound p port is c of v.fixed.shape shape (ap is_clock_role input),
    fit,
  )

  -- a Clock is asked or set once
  can_tick : (sort : Variable → Bool) → sort (placed system sound p port is c of v.fixed.shape shape).variable ≡ true → is_clock_role port.role ≡ true → can_be_ticked sort v.phase.state v.fixed.shape v.phase.marks port.reference ≡ true
  can_tick sort h clock =
      ap (λ (s : InstanceState). can_be_ticked sort s v.fixed.shape v.phase.marks port.reference) (state_is true (clock_events system sound p port c is of clock))
      ∙ ap (λ b. b && not (is_marked v.fixed.shape v.phase.marks port.reference)) (at_under system sound p port is c of v.fixed.shape shape sort h) ∙ ap not midway.unmarked

  -- by the type and the causality of its variable
  clock_there : is_clock_role port.role ≡ true → is_clock (placed system sound p port is c of v.fixed.shape shape).variable ≡ true
  clock_there clock =
      let there = placed system sound p port is c of v.fixed.shape shape in
      ap is_clock_type there.kind ∙ clock_type_of system p port there ∙ clock

  may_ask_clock : port.role ≡ ClockOutput → Permitted v.fixed.shape v.phase (C.GetClock port.reference)
  may_ask_clock output =
      let there = placed system sound p port is c of v.fixed.shape shape in
      can_tick is_output_clock
      (ap (λ (x : Causality). is_output x && is_some there.variable.kind && is_clock there.variable) (is_output_of system p port there (ap is_output_role output))
      ∙ ap (λ o. is_some o && is_clock there.variable) there.kind ∙ clock_there (ap is_clock_role output))
      (ap is_clock_role output)

  may_set_clock : is_clock_role port.role ≡ true → is_output_role port.role ≡ false → Permitted v.fixed.shape v.phase (C.SetClock port.reference)
  may_set_clock clock input =
      let there = placed system sound p port is c of v.fixed.shape shape in
      can_tick is_input_clock
      (ap (λ (x : Causality). is_input x && is_some there.variable.kind && is_clock there.variable) (is_input_of system p port there input)
      ∙ ap (λ o. is_some o && is_clock there.variable) there.kind ∙ clock_there clock)
      clock

  may_call : (call : Call) → IsAskedInInstant c.shape.has_event_mode port values call → MayAsk (Some call) v
  may_call call (ReadsOutput output present get) = subst (λ (k : Call). MayAsk (Some k) v) (sym get) (may_read output present, refl)
  may_call call (SetsInput feed x input events present from set) =
      subst (λ (k : Call). MayAsk (Some k) v) (sym set)
      (may_write feed input events present x (subst (λ o. IfSome o (Fits port.kind)) from (fed_fits port.kind feed values)), refl)
  may_call call (AsksClock output ask) = subst (λ (k : Call). MayAsk (Some k) v) (sym ask) (may_ask_clock output, refl)
  may_call call (SetsClock feed input active set) = subst (λ (k : Call). MayAsk (Some k) v) (sym set) (may_set_clock (ap is_clock_role input) (ap is_output_role input), refl)
  may_call call (Ticking timing time set) = subst (λ (k : Call). MayAsk (Some k) v) (sym set) (may_set_clock (ap is_clock_role time) (ap is_output_role time), refl)

  may_ask : (ticks : ℕ → Bool) (is_first : Bool) (asks : Option Call) → (in_instant ticks is_first).asks p port c values ≡ asks → MayAsk asks v
  may_ask ticks is_first None h = tt
  may_ask ticks is_first (Some call) h = may_call call (asked_in_instant ticks is_first p port c values call h)

-- ---- a port that is present is so in its FMU

module _ (system : System) (sound : IsSound system) (pre : List ℕ) (p : ℕ) (here : Here (Needs system) pre p) (values : List (Option ℤ)) (port : Port) (is : slice_get system.ports p ≡ Some port)
    (c : Component) (of : slice_get system.components port.component.0 ≡ Some c) (active : List Bool)
    (are : (q : ℕ) (clock : Port) → Contains pre q → slice_get system.ports q ≡ Some clock → clock.component.0 ≡ port.component.0 → is_clock_role clock.role ≡ true → is_active (value values q) ≡ true → is_marked c.shape active clock.reference ≡ true) where
  by_clocks : list_any (λ (k : PortId). is_active (value values k.0)) port.clocks ≡ true → (v : Variable) → v ≡ (place_of system sound p port is).variable → list_any (is_marked c.shape active) v.clocks ≡ true
  by_clocks h v same =
      let there = place_of system sound p port is in
      let one = any_some (λ (k : PortId). is_active (value values k.0)) port.clocks h in
      let among : Contains (port_numbers port.clocks) one.1.0 = at_contains (port_numbers port.clocks) one.0 one.1.0 (slice_get-map (λ (x : PortId). x.0) port.clocks one.0 ∙ ap (option_map (λ (x : PortId). x.0)) one.2) in
      let clock = clock_at system sound p port there one.1.0 among in
      ap (λ (x : Variable). list_any (is_marked c.shape active) x.clocks) same
      ∙ any_from (is_marked c.shape active) there.variable.clocks clock.clock.reference clock.named
      (are one.1.0 clock.clock (here.needed one.1.0 (ByClock port is among)) clock.is clock.component clock.role one.3)

  present_there : is_clock_role port.role ≡ false → is_present port values ≡ true → is_at (May.is_accessible c.shape active) c.shape.variables port.reference ≡ true
  present_there plain present =
      at_under system sound p port is c of c.shape refl (May.is_accessible c.shape active)
      (by (length port.clocks == 0) refl (ap (λ b. b || length port.clocks == 0 || list_any (λ (k : PortId). is_active (value values k.0)) port.clocks) (sym plain) ∙ present))
    where
      or_right : (a b : Bool) → b ≡ true → (a || b) ≡ true
      or_right true b e = refl
      or_right false b e = e

      by : (b : Bool) → (length port.clocks == 0) ≡ b → (b || list_any (λ (k : PortId). is_active (value values k.0)) port.clocks) ≡ true →
          May.is_accessible c.shape active (placed system sound p port is c of c.shape refl).variable ≡ true
      by true none h =
          ap (λ b. b || list_any (is_marked c.shape active) (placed system sound p port is c of c.shape refl).variable.clocks) (no_clocks_there system sound p port is c of c.shape refl none)
      by false some h =
          or_right (has_no_clocks (placed system sound p port is c of c.shape refl).variable) _ (by_clocks h (placed system sound p port is c of c.shape refl).variable refl)

-- ---- a turn of the loop

module _ (system : System) (sound : IsSound system) (ticks : ℕ → Bool) (is_first : Bool) (before : List (Option ℤ)) (len : length before ≡ length system.ports) (fits : AreFitting system before)
    (olds mids : List Instance) (same : shapes olds ≡ shapes_of system) (begins : All (λ (x : Instance). BeginsInstant x.view) olds)
    (taken : List ℕ) (values : List (Option ℤ)) (log : List Sent) (told : Told log olds mids) (walked : Walked system (in_instant ticks is_first) before taken values log) where
  pub fits_now : AreFitting system values
  fits_now = (fits_along system (in_instant ticks is_first) (takes_fitting system sound ticks is_first) before len fits taken values log walked).1

  calls : All (IsCallOf ReadsOrSets system taken) log
  calls = calls_of ReadsOrSets system (in_instant ticks is_first) (reads_or_sets system sound ticks is_first) before taken values log walked

  module _ (rest : List ℕ) (p : ℕ) (order_is : port_numbers system.instant_order ≡ taken ++ p ∷ rest) where
    now : Here (Needs system) taken p
    now = here_at (λ q. q < length system.ports) (Needs system) (port_numbers system.instant_order) taken p rest sound.instant_order order_is

    midway : (port : Port) (c : Component) (x : Instance) → slice_get system.ports p ≡ Some port → slice_get system.components port.component.0 ≡ Some c → slice_get mids port.component.0 ≡ Some x →
        IsMidway c.shape.has_event_mode port values x.view
    midway port c x is of at =
        let old = get_or olds port.component.0 x in
        let shape = shape_here system olds mids log told same port.component.0 c of x at in
        let was = shape_was system olds mids log told same port.component.0 c of x at in
        let began : BeginsInstant old.view = all_was system olds mids log told same port.component.0 c of x at (λ (y : Instance). BeginsInstant y.view) begins in
        let beside = after ReadsOrSets system sound taken log calls olds mids told same port.component.0 c of x at touches p port is refl now.fresh in
        let active : x.view.phase.active ≡ active_by c.shape old.view.phase.active (part port.component.0 log) =
        talks_active c.shape old.view x.view (part port.component.0 log) was (talks_here system olds mids log told same port.component.0 c of x at)
        (quiet_after ReadsOrSets system sound taken log calls olds mids told same port.component.0 c of x at touches) in
        let room : length old.view.phase.active ≡ length c.shape.variables = began.room ∙ ap (λ (s : Shape). length s.variables) was in
        record {
          state = beside.0 ∙ began.running ∙ ap running_state was;
          unmarked = ap (λ (s : Shape). is_marked s x.view.phase.marks port.reference) shape ∙ beside.1 ∙ unmarked c.shape old.view.phase.marks port.reference began.unset;
          none = λ none. ap none_marked (read_alone ReadsOrSets system sound taken log calls olds mids told same port.component.0 c of x at (λ d q call sort its. gets_alone c d q call none sort its)) ∙ began.unset;
          present = λ plain present.
              ap (λ (s : Shape). is_at (May.is_accessible s x.view.phase.active) s.variables port.reference) shape
              ∙ ap (λ xs. is_at (May.is_accessible c.shape xs) c.shape.variables port.reference) active
              ∙ present_there system sound taken p now values port is c of (active_by c.shape old.view.phase.active (part port.component.0 log))
              (λ q clock among there beside role one.
              active_along system sound ticks is_first before len taken (p ∷ rest) values log order_is walked port.component.0 c of old.view.phase.active room q clock among there beside role one)
              plain present;
        }

    pub may_turn : MayTurn system (in_instant ticks is_first) p values mids
    may_turn port c x is of at =
        may_ask system sound values fits_now p port is x.view c of (shape_here system olds mids log told same port.component.0 c of x at) (midway port c x is of at) ticks is_first _ refl

  -- after the whole walk the Clocks that are active in the values are so in their FMUs
  pub active_at_end : port_numbers system.instant_order ≡ taken → AreActive system values (modes mids)
  active_at_end whole q port c mode is of at clock one =
      let there = got mids port.component.0 (let w = slice_get_within (modes mids) port.component.0 mode at in let e = length-map mids mode_of in omega (arith, w, e)) in
      let x = there.0 in
      let own : mode ≡ mode_of x = same_Some _ _ (sym at ∙ slice_get-map mode_of mids port.component.0 ∙ ap (option_map mode_of) there.1) in
      let old = get_or olds port.component.0 x in
      let was = shape_was system olds mids log told same port.component.0 c of x there.1 in
      let began : BeginsInstant old.view = all_was system olds mids log told same port.component.0 c of x there.1 (λ (y : Instance). BeginsInstant y.view) begins in
      let active : x.view.phase.active ≡ active_by c.shape old.view.phase.active (part port.component.0 log) =
      talks_active c.shape old.view x.view (part port.component.0 log) was (talks_here system olds mids log told same port.component.0 c of x there.1)
      (quiet_after ReadsOrSets system sound taken log calls olds mids told same port.component.0 c of x there.1 touches) in
      let room : length old.view.phase.active ≡ length c.shape.variables = began.room ∙ ap (λ (s : Shape). length s.variables) was in
      let among : Contains taken q = subst (λ (order : List ℕ). Contains order q) whole (sound.instant_order.each q (slice_get_within system.ports q port is)) in
      ap (λ (m : InstanceMode). is_marked c.shape m.active port.reference) own
      ∙ ap (λ (xs : List Bool). is_marked c.shape xs port.reference) active
      ∙ active_along system sound ticks is_first before len taken [] values log (whole ∙ sym (append-nil taken)) walked port.component.0 c of old.view.phase.active room q port among is refl clock one

-- each port's Clocks are ports
pub clocks_placed : (system : System) → IsSound system → All (HasPlacedClocks (length system.ports)) system.ports
clocks_placed system sound = all_by_place (HasPlacedClocks (length system.ports)) system.ports (λ p port is.
    all_by_place (λ (c : PortId). c.0 < length system.ports) port.clocks (λ k clock at.
    let there = clock_at system sound p port (place_of system sound p port is) clock.0
    (at_contains (port_numbers port.clocks) k clock.0 (slice_get-map (λ (x : PortId). x.0) port.clocks k ∙ ap (option_map (λ (x : PortId). x.0)) at)) in
    slice_get_within system.ports clock.0 there.clock there.is))
