-- Places of the instants' order that are left out: inputs that nothing feeds, and what is absent.
use Rattle.std.proofs.Common.{◌≡◌, ℕ, ◌+◌, ◌-◌, ◌<◌, ◌≤◌, ℤ, ◌⊎◌, Bool, true, false, inl, inr, List, [], ◌∷◌, Option, Some, None, Contains, ap, arith, get_or, length, refl, subst, suc, sym, take, drop, zero, ◌∙◌}
use Rattle.std.specs.Prelude.{All, ◌&&◌, ◌||◌, ◌==◌, not, if◌then◌else◌, option_map, slice_get, slice_set}
use Rattle.std.specs.List.{list_any}
use Rattle.std.proofs.lemmas.Bool.{cases_lt}
use Rattle.std.proofs.lemmas.List.{get_or-set_other, get_or-set_same, get_or_past, length-map, length-set}
use Rattle.std.proofs.lemmas.Option.{same_Some, slice_get-get_or, slice_get-map, slice_get_within}
use Rattle.sim_base.specs.declared.numbers.PortId.{PortId}
use Rattle.fmi_calls.specs.declared.call.Call.TheVariants as C
use Rattle.fmi_calls.specs.declared.call.Reply.{Reply}
use Rattle.fmu_peer.specs.CloseAll.{Instance}
use Rattle.system_model.specs.declared.system.Component.{Component}
use Rattle.system_model.specs.declared.system.Port.{Port}
use Rattle.system_model.specs.declared.system.Role.{Role}
use Rattle.system_model.specs.declared.system.Role.TheVariants.{Input, Output, ClockInput, ClockOutput, TimeClock}
use Rattle.system_model.specs.declared.system.System.{System}
use Rattle.system_model.specs.Needs.{ByClock}
use Rattle.system_model.specs.Ports.{is_clock_role, port_numbers}
use Rattle.system_model.specs.Sound.{IsSound}
use Rattle.system_model.specs.Values.{value, is_active, is_present}
use Rattle.system_model.proofs.CallerLemmas.{at_contains, clock_at, contains_at, place_of, true_false}
use Rattle.run_model.specs.Equations.{fed}
use Rattle.run_model.proofs.CallerLemmas.{push_cases}
use Rattle.event_iteration.specs.declared.participants.Participants.{Participants}
use Rattle.event_iteration.specs.declared.walk.Waiting.{Waiting}
use Rattle.slot_calls.specs.Log.{Sent}
use Rattle.event_iteration.specs.Explains.{Explains}
use Rattle.event_iteration.specs.Instants.{asks_in_instant, in_instant, takes_in_instant}
use Rattle.event_iteration.specs.Participants.{AreAtTicks, AreParticipants, AreUnfedAwaited, HasClockAt, LacksAt, Passes, is_steady, is_unfed, waits_for_ticks}
use Rattle.event_iteration.specs.Turns.{Rules}
use Rattle.event_iteration.specs.Waits.{Gathers, IsIdle, KeepsOthers, place}
use Rattle.event_iteration.proofs.Activity.{any_some}
use Rattle.event_iteration.proofs.Clockless.{clockless_of}
use Rattle.event_iteration.proofs.Fmus.{got}
use Rattle.event_iteration.proofs.Steps.{idles}
use Rattle.event_iteration.proofs.Walking.{by_number, more_order, split_order}

-- ---- places of a list

taken_at : (order : List ℕ) (j i q : ℕ) → slice_get (take j order) i ≡ Some q → (i < j) × (slice_get order i ≡ Some q)
taken_at order zero i q at = absurd (cc)
taken_at [] (suc j) i q at = absurd (cc)
taken_at (x ∷ order) (suc j) zero q at = (omega arith, at)
taken_at (x ∷ order) (suc j) (suc i) q at = let r = taken_at order j i q at in (let l = r.0 in omega (arith, l), r.1)

at_taken : (order : List ℕ) (k i q : ℕ) → slice_get order i ≡ Some q → i < k → slice_get (take k order) i ≡ Some q
at_taken order zero i q at lt = absurd (omega (arith, lt))
at_taken [] (suc k) i q at lt = absurd (cc)
at_taken (x ∷ order) (suc k) zero q at lt = at
at_taken (x ∷ order) (suc k) (suc i) q at lt = at_taken order k i q at (omega (arith, lt))

later_in : (order : List ℕ) (k m q : ℕ) → k ≤ m → Contains (take k order) q → Contains (take m order) q
later_in order k m q le prefix =
    let there = contains_at (take k order) q prefix in
    let i = taken_at order k there.0 q there.1 in
    at_contains (take m order) there.0 q (at_taken order m there.0 q i.1 (let l = i.0 in omega (arith, l, le)))

-- ---- turns of ports that take no part

unfed_turn : (role : Role) (port : Port) (events first ticks : Bool) (values : List (Option ℤ)) (last : Option ℤ) → is_unfed role ≡ true → last ≡ None →
    (asks_in_instant role port events first ticks values ≡ None) × (takes_in_instant role port ticks values last None ≡ last)
unfed_turn (Input None) port events first ticks values last unfed none = (refl, sym none)
unfed_turn (Input (Some feed)) port events first ticks values last unfed none = absurd (true_false (sym unfed))
unfed_turn Output port events first ticks values last unfed none = absurd (true_false (sym unfed))
unfed_turn (ClockInput feed) port events first ticks values last unfed none = absurd (true_false (sym unfed))
unfed_turn ClockOutput port events first ticks values last unfed none = absurd (true_false (sym unfed))
unfed_turn (TimeClock timing) port events first ticks values last unfed none = absurd (true_false (sym unfed))

absent_turn : (role : Role) (port : Port) (events first ticks : Bool) (values : List (Option ℤ)) (last : Option ℤ) → is_clock_role role ≡ false → is_unfed role ≡ false → events ≡ true → is_present port values ≡ false →
    (asks_in_instant role port events first ticks values ≡ None) × (takes_in_instant role port ticks values last None ≡ last)
absent_turn (Input None) port events first ticks values last plain fed_it events_is absent = absurd (true_false fed_it)
absent_turn (Input (Some feed)) port events first ticks values last plain fed_it events_is absent = (
  ap (λ (b : Bool). if b then option_map (λ x. C.Set port.kind port.reference x) (fed port.kind feed values) else None) (ap (λ (b : Bool). b && is_present port values) events_is ∙ absent),
  ap (λ (b : Bool). if b then fed port.kind feed values else last) absent,
)
absent_turn Output port events first ticks values last plain fed_it events_is absent = (
  ap (λ (b : Bool). if b then Some (C.Get port.kind port.reference) else None) (ap (λ (b : Bool). if b then is_present port values else first) events_is ∙ absent),
  refl,
)
absent_turn (ClockInput feed) port events first ticks values last plain fed_it events_is absent = absurd (true_false plain)
absent_turn ClockOutput port events first ticks values last plain fed_it events_is absent = absurd (true_false plain)
absent_turn (TimeClock timing) port events first ticks values last plain fed_it events_is absent = absurd (true_false plain)

-- none of the Clocks is active
none_active : (values : List (Option ℤ)) (clocks : List PortId) → ((q : ℕ) → Contains (port_numbers clocks) q → is_active (value values q) ≡ true → ⊥) → list_any (λ (c : PortId). is_active (value values c.0)) clocks ≡ false
none_active values clocks none = by (list_any (λ (c : PortId). is_active (value values c.0)) clocks) refl
  where
    by : (b : Bool) → list_any (λ (c : PortId). is_active (value values c.0)) clocks ≡ b → list_any (λ (c : PortId). is_active (value values c.0)) clocks ≡ false
    by false is = is
    by true is =
        let some = any_some (λ (c : PortId). is_active (value values c.0)) clocks is in
        absurd (none some.1.0 (at_contains (port_numbers clocks) some.0 some.1.0 (slice_get-map (λ (x : PortId). x.0) clocks some.0 ∙ ap (option_map (λ (x : PortId). x.0)) some.2)) some.3)

-- ---- a place that is left out

-- where a Clock of it that was taken is active, a place that takes part at ticks is still to be taken
abbrev pub AwaitsTicks : System → ℕ → List (Option ℤ) → List Bool → Type 0
AwaitsTicks system k values pending =
    (c j p : ℕ) (port : Port) → k ≤ j → slice_get (port_numbers system.instant_order) j ≡ Some p → slice_get system.ports p ≡ Some port → waits_for_ticks port ≡ true → Contains (port_numbers port.clocks) c → Contains (take k (port_numbers system.instant_order)) c →
    is_active (value values c) ≡ true → get_or pending j false ≡ true

-- an input that nothing feeds and that is still to come has no value, or is still to be taken
abbrev pub AreUnfedAwaitedFrom : System → ℕ → List (Option ℤ) → List Bool → Type 0
AreUnfedAwaitedFrom system k values pending =
    (j p : ℕ) (port : Port) → k ≤ j → slice_get (port_numbers system.instant_order) j ≡ Some p → slice_get system.ports p ≡ Some port → is_unfed port.role ≡ true → (value values p ≡ None) ⊎ (get_or pending j false ≡ true)

module _ (system : System) (sound : IsSound system) (ticks : ℕ → Bool) (is_first : Bool) (k next : ℕ) (values : List (Option ℤ)) (pending : List Bool) (steady : (i : ℕ) → k ≤ i → i < next → LacksAt system (port_numbers system.instant_order) is_steady i)
    (quiet : (i : ℕ) → k ≤ i → i < next → get_or pending i false ≡ false) (awaits : AwaitsTicks system k values pending) (unfed : AreUnfedAwaitedFrom system k values pending) where
  abbrev order : List ℕ
  order = port_numbers system.instant_order

  -- a Clock that stands before the next place was taken
  clock_in_prefix : (m q : ℕ) (clock : Port) → m ≤ next → Contains (take m order) q → slice_get system.ports q ≡ Some clock → is_clock_role clock.role ≡ true → Contains (take k order) q
  clock_in_prefix m q clock up_to prefix clock_is role =
      let there = contains_at (take m order) q prefix in
      let i = taken_at order m there.0 q there.1 in
      by there.0 i.0 i.1 (cases_lt there.0 k)
    where
      by : (i : ℕ) → i < m → slice_get order i ≡ Some q → (i < k) ⊎ (k ≤ i) → Contains (take k order) q
      by i lt i_at (inl before) = at_contains (take k order) i q (at_taken order k i q i_at before)
      by i lt i_at (inr later) = absurd (true_false (sym (ap (λ (b : Bool). b || (length clock.clocks == 0 && not (is_unfed clock.role))) role) ∙ steady i later (omega (arith, lt, up_to)) q clock i_at clock_is))

  -- and so was a Clock of a port at a place that is left out
  clock_taken : (j p : ℕ) (port : Port) → j < next → slice_get order j ≡ Some p → slice_get system.ports p ≡ Some port → (q : ℕ) → Contains (port_numbers port.clocks) q → Contains (take k order) q
  clock_taken j p port below at is q m =
      let clock = clock_at system sound p port (place_of system sound p port is) q m in
      clock_in_prefix j q clock.clock (omega (arith, below)) (sound.instant_order.after (take j order) (drop (j + 1) order) p q (split_order order j p at) (ByClock port is m)) clock.is clock.role

  -- so it is with the places from the next on
  pub awaits_next : k ≤ next → AwaitsTicks system next values pending
  awaits_next on c j p port low at is waits m taken active =
      let clock = clock_at system sound p port (place_of system sound p port is) c m in
      awaits c j p port (omega (arith, on, low)) at is waits m (clock_in_prefix next c clock.clock (omega arith) taken clock.is clock.role) active

  idle_at : (j p : ℕ) (port : Port) → k ≤ j → j < next → slice_get order j ≡ Some p → slice_get system.ports p ≡ Some port → IsIdle system (in_instant ticks is_first) p values
  idle_at j p port low below at is x c others x_is of alike = by (is_unfed port.role) refl
    where
      same : port ≡ x
      same = same_Some port x (sym is ∙ x_is)

      for_port : (asks_in_instant port.role port c.shape.has_event_mode is_first (ticks p) others ≡ None) × (takes_in_instant port.role port (ticks p) others (value values p) None ≡ value values p) →
          (asks_in_instant x.role x c.shape.has_event_mode is_first (ticks p) others ≡ None) × (takes_in_instant x.role x (ticks p) others (value values p) None ≡ value values p)
      for_port h = subst (λ (y : Port). (asks_in_instant y.role y c.shape.has_event_mode is_first (ticks p) others ≡ None) × (takes_in_instant y.role y (ticks p) others (value values p) None ≡ value values p)) same h

      parts : (a b u : Bool) → (a || (b && not u)) ≡ false → u ≡ false → (a ≡ false) × (b ≡ false)
      parts true b u h e = absurd (true_false h)
      parts false true true h e = absurd (true_false e)
      parts false true false h e = absurd (true_false h)
      parts false false u h e = (refl, refl)

      waits : (a b u : Bool) → a ≡ false → b ≡ false → u ≡ false → (not a && not b && not u) ≡ true
      waits false false false p q r = refl
      waits true b u p q r = absurd (true_false p)
      waits false true u p q r = absurd (true_false q)
      waits false false true p q r = absurd (true_false r)

      of_port : slice_get system.components port.component.0 ≡ Some c
      of_port = subst (λ (y : Port). slice_get system.components y.component.0 ≡ Some c) (sym same) of

      events : (length port.clocks == 0) ≡ false → (b : Bool) → c.shape.has_event_mode ≡ b → c.shape.has_event_mode ≡ true
      events some true e = e
      events some false e = absurd (true_false (sym (clockless_of system sound c e p port is of_port) ∙ some))

      by : (u : Bool) → is_unfed port.role ≡ u → (asks_in_instant x.role x c.shape.has_event_mode is_first (ticks p) others ≡ None) × (takes_in_instant x.role x (ticks p) others (value values p) None ≡ value values p)
      by true e =
          let none : value values p ≡ None = elim (unfed j p port low at is e) as (λ o. value values p ≡ None) [
            | inl empty ↦ empty
            | inr due ↦ absurd (true_false (sym due ∙ quiet j low below))
          ] in
          for_port (unfed_turn port.role port c.shape.has_event_mode is_first (ticks p) others (value values p) e none)
      by false e =
          let lacks = parts (is_clock_role port.role) (length port.clocks == 0) (is_unfed port.role) (steady j low below p port at is) e in
          let silent = none_active others port.clocks (λ q m active.
          let was : is_active (value values q) ≡ true = ap is_active (sym (alike q (subst (λ (y : Port). Contains (port_numbers y.clocks) q) same m))) ∙ active in
          let due = awaits q j p port low at is (waits (is_clock_role port.role) (length port.clocks == 0) (is_unfed port.role) lacks.0 lacks.1 e) m (clock_taken j p port below at is q m) was in
          true_false (sym due ∙ quiet j low below)) in
          let absent : is_present port others ≡ false =
          ap (λ (b : Bool). b || length port.clocks == 0 || list_any (λ (c : PortId). is_active (value others c.0)) port.clocks) lacks.0
          ∙ ap (λ (b : Bool). b || list_any (λ (c : PortId). is_active (value others c.0)) port.clocks) lacks.1 ∙ silent in
          for_port (absent_turn port.role port c.shape.has_event_mode is_first (ticks p) others (value values p) lacks.0 e (events lacks.1 c.shape.has_event_mode refl) absent)

  -- the walk goes on after them
  module _ (before : List (Option ℤ)) (olds is : List Instance) (w : Waiting) where
    pub left_out : (m : ℕ) → k + m ≤ next → next ≤ length order → Gathers system (in_instant ticks is_first) before order olds k w values is → Gathers system (in_instant ticks is_first) before order olds (k + m) w values is
    left_out zero up_to within g = subst (λ (n : ℕ). Gathers system (in_instant ticks is_first) before order olds n w values is) (let e : k ≡ k + 0 = omega arith in e) g
    left_out (suc m) up_to within g =
        let so_far = left_out m (omega (arith, up_to)) within g in
        let place = got order (k + m) (omega (arith, up_to, within)) in
        let p = place.0 in
        let port = got system.ports p (so_far.ordered.within p (at_contains order (k + m) p place.1)) in
        let placed = place_of system sound p port.0 port.1 in
        subst (λ (n : ℕ). Gathers system (in_instant ticks is_first) before order olds n w values is) (let e : k + m + 1 ≡ k + suc m = omega arith in e)
        (idles system sound (in_instant ticks is_first) before order olds (k + m) w values is so_far p place.1 port.0 port.1 placed.component placed.is.of (idle_at (k + m) p port.0 (omega arith) (omega (arith, up_to)) place.1 port.1))

-- ---- one turn more

-- where the Clocks that were taken keep their values, and those places that wait for the one that is taken are added where it is active
pub awaits_more : (system : System) (sound : IsSound system) (lists : List (List ℕ)) → AreAtTicks system lists → (k p : ℕ) → slice_get (port_numbers system.instant_order) k ≡ Some p → (values after : List (Option ℤ)) (pending more : List Bool) → AwaitsTicks system k values pending →
    ((q : ℕ) (port : Port) → Contains (take k (port_numbers system.instant_order)) q → slice_get system.ports q ≡ Some port → is_clock_role port.role ≡ true → value after q ≡ value values q) → ((j : ℕ) → (j ≡ k → ⊥) → get_or pending j false ≡ true → get_or more j false ≡ true) →
    (is_active (value after p) ≡ true → (j : ℕ) → Contains (get_or lists p []) j → get_or more j false ≡ true) → AwaitsTicks system (k + 1) after more
awaits_more system sound lists rows k p at values after pending more awaits keeps kept there c j q port low j_at is waits m taken active =
    push_cases (take k (port_numbers system.instant_order)) p c (subst (λ (l : List ℕ). Contains l c) (more_order (port_numbers system.instant_order) k p at) taken)
    (λ old.
    let clock = clock_at system sound q port (place_of system sound q port is) c m in
    kept j (λ e. omega (arith, e, low)) (awaits c j q port (omega (arith, low)) j_at is waits m old (ap is_active (sym (keeps c clock.clock old clock.is clock.role)) ∙ active)))
    (λ same. there (ap (λ (n : ℕ). is_active (value after n)) same ∙ active) j (subst (λ (n : ℕ). Contains (get_or lists n []) j) (sym same) (rows.there c j q port j_at is waits m)))

-- what wasn't taken has the value that it had, and waits where it did
pub unfed_from : (system : System) → IsSound system → (k : ℕ) (before values : List (Option ℤ)) (first pending : List Bool) → AreUnfedAwaited system before first → ((q : ℕ) → (Contains (take k (port_numbers system.instant_order)) q → ⊥) → value values q ≡ value before q) →
    ((j : ℕ) → k ≤ j → get_or first j false ≡ true → get_or pending j false ≡ true) → AreUnfedAwaitedFrom system k values pending
unfed_from system sound k before values first pending empty untaken left j p port low at is unfed = elim (empty j p port at is unfed) as (λ o. (value values p ≡ None) ⊎ (get_or pending j false ≡ true)) [
  | inl none ↦ inl (untaken p (λ m. sound.instant_order.once (take j (port_numbers system.instant_order)) (drop (j + 1) (port_numbers system.instant_order)) p (split_order (port_numbers system.instant_order) j p at) (later_in (port_numbers system.instant_order) k j p low m)) ∙ none)
  | inr due ↦ inr (left j low due)
]

-- ---- the places that wait for a Clock

module _ (system : System) (sound : IsSound system) where
  abbrev places : List ℕ
  places = port_numbers system.instant_order

  pub clock_within : (c j : ℕ) → HasClockAt system c j → j < length system.instant_order
  clock_within c j has = let w = slice_get_within places j has.p has.at in let n = length-map system.instant_order (λ (x : PortId). x.0) in omega (arith, w, n)

  -- they are after its own
  pub clock_before : (c j : ℕ) → HasClockAt system c j → (k : ℕ) → slice_get places k ≡ Some c → k < j
  clock_before c j has k at = by (cases_lt k j)
    where
      by : (k < j) ⊎ (j ≤ k) → k < j
      by (inl lt) = lt
      by (inr le) =
          let prefix = sound.instant_order.after (take j places) (drop (j + 1) places) has.p c (split_order places j has.p has.at) (ByClock has.port has.is has.clock) in
          let there = contains_at (take j places) c prefix in
          let i = taken_at places j there.0 c there.1 in
          absurd (sound.instant_order.once (take k places) (drop (k + 1) places) c (split_order places k c at)
          (at_contains (take k places) there.0 c (at_taken places k there.0 c i.1 (let l = i.0 in omega (arith, l, le)))))

-- ---- one place more

-- what a walk knows before the place k
pub record Knows (system : System) (rules : Rules) (before : List (Option ℤ)) (olds : List Instance) (first : List Bool) (k : ℕ) (w : Waiting) (values : List (Option ℤ)) (is : List Instance) (pending : List Bool) : Type 0 where
  pub gathers : Gathers system rules before (port_numbers system.instant_order) olds k w values is
  pub awaits : AwaitsTicks system k values pending
  pub untaken : (q : ℕ) → (Contains (take k (port_numbers system.instant_order)) q → ⊥) → value values q ≡ value before q
  pub left : (j : ℕ) → k ≤ j → get_or first j false ≡ true → get_or pending j false ≡ true

module _ (system : System) (sound : IsSound system) (it : Participants) (participants : AreParticipants system it) (ticks : ℕ → Bool) (is_first : Bool) (before : List (Option ℤ)) (first : List Bool) (unfed : AreUnfedAwaited system before first) (olds : List Instance) where
  -- up to the next place that is looked at
  pub knows_next : (k next : ℕ) (w : Waiting) (values : List (Option ℤ)) (is : List Instance) (pending : List Bool) → k ≤ length system.instant_order → k ≤ next → next ≤ get_or it.steady.next.items k k → ((j : ℕ) → j < next → get_or pending j false ≡ false) →
      Knows system (in_instant ticks is_first) before olds first k w values is pending → Knows system (in_instant ticks is_first) before olds first next w values is pending
  knows_next k next w values is pending within on up_to idle knows =
      let skips = participants.steady in
      let steady : (i : ℕ) → k ≤ i → i < next → LacksAt system (port_numbers system.instant_order) is_steady i = λ i low high. skips.out_between k i low (omega (arith, high, up_to)) in
      let quiet : (i : ℕ) → k ≤ i → i < next → get_or pending i false ≡ false = λ i low high. idle i high in
      let empty = unfed_from system sound k before values first pending unfed knows.untaken knows.left in
      let more : k + (next - k) ≡ next = omega (arith, on) in
      let long = length-map system.instant_order (λ (x : PortId). x.0) in
      let all : next ≤ length (port_numbers system.instant_order) = (let most = skips.within k within in omega (arith, most, up_to, long)) in
      record {
        gathers = subst (λ (n : ℕ). Gathers system (in_instant ticks is_first) before (port_numbers system.instant_order) olds n w values is) more
            (left_out system sound ticks is_first k next values pending steady quiet knows.awaits empty before olds is w (next - k) (omega (arith, more)) all knows.gathers);
        awaits = awaits_next system sound ticks is_first k next values pending steady quiet knows.awaits empty on;
        untaken = λ q m. knows.untaken q (λ taken. m (later_in (port_numbers system.instant_order) k next q on taken));
        left = λ j low. knows.left j (omega (arith, on, low));
      }

  -- after a turn
  pub knows_more : (k p : ℕ) → slice_get (port_numbers system.instant_order) k ≡ Some p → (w x : Waiting) (values after : List (Option ℤ)) (is news : List Instance) (pending more : List Bool) → Knows system (in_instant ticks is_first) before olds first k w values is pending →
      Gathers system (in_instant ticks is_first) before (port_numbers system.instant_order) olds (k + 1) x after news × KeepsOthers system (port_numbers system.instant_order) (place k w values is) (place (k + 1) x after news) → ((j : ℕ) → (j ≡ k → ⊥) → get_or pending j false ≡ true → get_or more j false ≡ true) →
      (is_active (value after p) ≡ true → (j : ℕ) → Contains (get_or it.at_ticks p []) j → get_or more j false ≡ true) → Knows system (in_instant ticks is_first) before olds first (k + 1) x after news more
  knows_more k p at w x values after is news pending more knows moved kept there = record {
    gathers = moved.0;
    awaits = awaits_more system sound it.at_ticks participants.at_ticks k p at values after pending more knows.awaits moved.1.clocks kept there;
    untaken = λ q m. moved.1.untaken q m ∙ knows.untaken q (λ taken. m (later_in (port_numbers system.instant_order) k (k + 1) q (omega arith) taken));
    left = λ j low due. kept j (λ e. omega (arith, e, low)) (knows.left j (omega (arith, low)) due);
  }

-- ---- after an instant

unfed_takes : (role : Role) (port : Port) (ticks : Bool) (values : List (Option ℤ)) (last : Option ℤ) (reply : Option Reply) → is_unfed role ≡ true → takes_in_instant role port ticks values last reply ≡ None
unfed_takes (Input None) port ticks values last reply unfed = refl
unfed_takes (Input (Some feed)) port ticks values last reply unfed = absurd (true_false (sym unfed))
unfed_takes Output port ticks values last reply unfed = absurd (true_false (sym unfed))
unfed_takes (ClockInput feed) port ticks values last reply unfed = absurd (true_false (sym unfed))
unfed_takes ClockOutput port ticks values last reply unfed = absurd (true_false (sym unfed))
unfed_takes (TimeClock timing) port ticks values last reply unfed = absurd (true_false (sym unfed))

pub unfed_after : (system : System) → IsSound system → (ticks : ℕ → Bool) (is_first : Bool) (before values : List (Option ℤ)) (log : List Sent) (pending : List Bool) → Explains system (in_instant ticks is_first) before (port_numbers system.instant_order) values log → AreUnfedAwaited system values pending
unfed_after system sound ticks is_first before values log pending told j p port at is unfed =
    inl (told.taken_values p port is (sound.instant_order.each p (slice_get_within system.ports p port is)) ∙ unfed_takes port.role port (ticks p) values (value before p) (told.replies p) unfed)

-- ---- what is still to be taken

-- a place that was taken isn't to be taken
not_taken : (before : List Bool) (k j : ℕ) → k < length before → get_or (slice_set before k false) j false ≡ true → (j ≡ k → ⊥) × (get_or before j false ≡ true)
not_taken before k j lt due = by_number j k
    (λ same. absurd (true_false (sym due ∙ ap (λ (i : ℕ). get_or (slice_set before k false) i false) same ∙ get_or-set_same before k false false lt)))
    (λ other. (other, sym (get_or-set_other before k j false false other) ∙ due))

-- its port is no active Clock
pub passes_alone : (lists : List (List ℕ)) (k p : ℕ) (is_active : Bool) (before after : List Bool) → k < length before → after ≡ slice_set before k false → is_active ≡ false → Passes lists k p is_active before after
passes_alone lists k p is_active before after lt is none = record {
  size = ap length is ∙ length-set before k false;
  kept = λ j other due. ap (λ (l : List Bool). get_or l j false) is ∙ get_or-set_other before k j false false other ∙ due;
  there = λ active j m. absurd (true_false (sym active ∙ none));
  only = λ j due. inl (not_taken before k j lt (sym (ap (λ (l : List Bool). get_or l j false) is) ∙ due));
}

-- the places of its list are added
pub passes_on : (lists : List (List ℕ)) (k p : ℕ) (is_active : Bool) (before taken after : List Bool) (row : List ℕ) → k < length before → taken ≡ slice_set before k false → row ≡ get_or lists p [] → length after ≡ length taken →
    ((j : ℕ) → get_or taken j false ≡ true → get_or after j false ≡ true) → ((j : ℕ) → Contains row j → get_or after j false ≡ true) → ((j : ℕ) → get_or after j false ≡ true → (get_or taken j false ≡ true) ⊎ Contains row j) → Passes lists k p is_active before after
passes_on lists k p is_active before taken after row lt is row_is size kept there only = record {
  size = size ∙ ap length is ∙ length-set before k false;
  kept = λ j other due. kept j (ap (λ (l : List Bool). get_or l j false) is ∙ get_or-set_other before k j false false other ∙ due);
  there = λ active j m. there j (subst (λ (l : List ℕ). Contains l j) (sym row_is) m);
  only = λ j due. elim (only j due) as (λ o. ((j ≡ k → ⊥) × (get_or before j false ≡ true)) ⊎ Contains (get_or lists p []) j) [
    | inl old ↦ inl (not_taken before k j lt (sym (ap (λ (l : List Bool). get_or l j false) is) ∙ old))
    | inr new ↦ inr (subst (λ (l : List ℕ). Contains l j) row_is new)
  ];
}

-- after a turn what is still to be taken stands after it
pub ahead_more : (system : System) (sound : IsSound system) (lists : List (List ℕ)) → AreAtTicks system lists → (k p : ℕ) → slice_get (port_numbers system.instant_order) k ≡ Some p → (is_active : Bool) (before after : List Bool) → Passes lists k p is_active before after →
    ((i : ℕ) → get_or before i false ≡ true → k ≤ i) → (j : ℕ) → get_or after j false ≡ true → k + 1 ≤ j
ahead_more system sound lists rows k p at is_active before after passes ahead j due = elim (passes.only j due) as (λ o. k + 1 ≤ j) [
  | inl old ↦ (let low = ahead j old.1 in omega (arith, low, old.0))
  | inr new ↦ (let low = clock_before system sound p j (rows.only p j new) k at in omega (arith, low))
]

-- the places that wait for a Clock are places of the order
pub rows_within : (system : System) (sound : IsSound system) (lists : List (List ℕ)) → AreAtTicks system lists → (p n : ℕ) → n ≡ length system.instant_order → All (λ (j : ℕ). j < n) (get_or lists p [])
rows_within system sound lists rows p n long = λ i d lt.
    let there = at_contains (get_or lists p []) i (get_or (get_or lists p []) i d) (slice_get-get_or (get_or lists p []) i d lt) in
    let low = clock_within system sound p (get_or (get_or lists p []) i d) (rows.only p (get_or (get_or lists p []) i d) there) in
    omega (arith, low, long)

-- what is due isn't below a place that nothing before is
pub due_from : (pending : List Bool) (next j : ℕ) → ((i : ℕ) → i < next → get_or pending i false ≡ false) → get_or pending j false ≡ true → next ≤ j
due_from pending next j idle due = elim (cases_lt j next) as (λ o. next ≤ j) [
  | inl lt ↦ absurd (true_false (sym due ∙ idle j lt))
  | inr le ↦ le
]

-- after the last place nothing is
pub none_pending : (pending : List Bool) (n k : ℕ) → length pending ≡ n → n ≤ k → ((i : ℕ) → get_or pending i false ≡ true → k ≤ i) → (j : ℕ) → get_or pending j false ≡ false
none_pending pending n k long past ahead j = by (get_or pending j false) refl
  where
    within : get_or pending j false ≡ true → j < length pending
    within due = elim (cases_lt j (length pending)) as (λ o. j < length pending) [
      | inl lt ↦ lt
      | inr le ↦ absurd (true_false (sym due ∙ get_or_past pending j false le))
    ]

    by : (b : Bool) → get_or pending j false ≡ b → get_or pending j false ≡ false
    by false none = none
    by true due = absurd (let low = ahead j due in let lt = within due in omega (arith, low, lt, long, past))
