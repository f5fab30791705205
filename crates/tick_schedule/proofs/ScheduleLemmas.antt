-- The points that a schedule keeps.
use Rattle.std.proofs.Common.{◌≡◌, ◌↔◌, ◌⊎◌, inl, inr, zero, suc, ◌∷◌, ◌++◌, ◌-◌, ◌*◌, ◌/◌, ◌%◌, ℕ, ◌+◌, ◌^◌, ◌<◌, ◌≤◌, List, [], map, replicate, length, set, get_or, Option, Some, None, IsSomeAnd, IsTrue, Bool, SomeIndex, All, ap, sym, subst, ◌∙◌, refl, arith}
use Rattle.std.specs.List.{slice_get}
use Rattle.std.proofs.lemmas.List.{ext_get_or, get_or-append_right, get_or_append_left, get_or-replicate, length-append, length-map, length-replicate, map-append, map-set, get_or-map, set-append_left}
use Rattle.std.proofs.lemmas.Bool.{cases_lt, le-ltb, leb-false, leb-true, lt-ltb}
use Rattle.std.proofs.lemmas.Nat.{div-add-mod'}
use Rattle.std.specs.Prelude.{IfSome, IfNone, nat_le, if◌then◌else◌, true, false}
use Rattle.std.specs.Option.{option_map}
use Rattle.std.proofs.lemmas.List.Elements.{All-append, All-set, All-get_or}
use Rattle.std.proofs.lemmas.Option.{slice_get-map, slice_get_within, slice_get-get_or, get_or_from_slice_get, slice_get_read}
use Rattle.value_types.specs.declared.shape.IntervalVariability.TheVariants.{Triggered}
use Rattle.tick_schedule.specs.declared.clock.TimeClock.{TimeClock}
use Rattle.tick_schedule.specs.declared.clock.ClockState.{ClockState}
use Rattle.tick_schedule.specs.declared.clock.ClockState.TheVariants.{Unasked, Periodic, Countdown}
use Rattle.tick_schedule.specs.Cost.{IsLogarithmic, TakesTurns}
use Rattle.tick_schedule.specs.Points.{HasCount, IsKept, IsNear, IsSoundState, entries, event_state, past, point_of}
use Rattle.tick_schedule.specs.Timetable.{EventAt, HasNext, IsSoundClock, IsToTick, TicksAt, Timetable, after_tick, first_state, resumed_in, resumed_state, ticks_up_to, timing_in}
use Rattle.tick_schedule.proofs.PointLemmas.{can_count, is_near_after, is_sound_after, point_below_tick, sound_first, ticks_at_point}

-- such places alone
abbrev pub table_of : ℕ → ℕ → List ClockState → Timetable
table_of start stop clocks = record { start = start; stop = stop; clocks = clocks; events = [] }

-- turns that halve what is left are few
pub logarithmic : (n m old new : ℕ) → m ≡ n → TakesTurns 2 m (old + 1) new → IsLogarithmic n old new
logarithmic n m old new same t d depth =
    let few = t.few in
    let steps = t.steps in
    let deep : t.turns ≤ d = depth.greatest t.turns (omega arith) in
    omega arith

pub kept_len : (start stop : ℕ) (clocks : List ClockState) (points : List ℕ) → IsKept start stop clocks points → length points ≡ length clocks
kept_len start stop clocks points kept = ap length kept.entered ∙ length-map clocks (point_of start stop)

-- a Clock that stands elsewhere, with the point of that
pub kept_set : (start stop : ℕ) (clocks : List ClockState) (points new : List ℕ) (clock : ℕ) (state : ClockState) (p : ℕ) → IsKept start stop clocks points → IsSoundState state → p ≡ point_of start stop state → new ≡ set points clock p → IsKept start stop (set clocks clock state) new
kept_set start stop clocks points new clock state p kept sound is entered = record {
  run = kept.run;
  near = kept.near;
  sound = All-set IsSoundState clocks clock state sound kept.sound;
  entered = entered ∙ ap (λ q. set points clock q) is ∙ ap (λ ps. set ps clock (point_of start stop state)) kept.entered ∙ sym (map-set (point_of start stop) clocks clock state);
}

-- the point of a Clock
pub kept_at : (start stop : ℕ) (clocks : List ClockState) (points : List ℕ) (clock : ℕ) (state : ClockState) → IsKept start stop clocks points → slice_get clocks clock ≡ Some state → get_or points clock 0 ≡ point_of start stop state
kept_at start stop clocks points clock state kept there =
    let within : clock < length clocks = slice_get_within clocks clock state there in
    ap (λ ps. get_or ps clock 0) kept.entered
    ∙ get_or-map (point_of start stop) clocks clock state 0 within
    ∙ ap (point_of start stop) (get_or_from_slice_get clocks clock state state there)

-- the state that stands at a place
pub at_place : (P : ClockState → Type 0) (o : Option ClockState) (state : ClockState) → o ≡ Some state → IsSomeAnd o P → P state
at_place P o state is holds = let Q : Option ClockState → Type 0 = λ o. IsSomeAnd o P in subst Q is holds

pub to_place : (P : ClockState → Type 0) (o : Option ClockState) (state : ClockState) → o ≡ Some state → P state → IsSomeAnd o P
to_place P o state is holds = let Q : Option ClockState → Type 0 = λ o. IsSomeAnd o P in subst Q (sym is) holds

-- the place of a Clock that ticks is one
pub place_of : (clocks : List ClockState) (clock : ℕ) (P : ClockState → Type 0) → IsSomeAnd (slice_get clocks clock) P → (state : ClockState) × (slice_get clocks clock ≡ Some state) × P state
place_of clocks clock P holds = place_by (slice_get clocks clock) refl holds where
  place_by : (o : Option ClockState) → slice_get clocks clock ≡ o → IsSomeAnd o P → (state : ClockState) × (slice_get clocks clock ≡ Some state) × P state
  place_by None is holds = absurd holds
  place_by (Some state) is holds = (state, is, holds)

-- at its point up to the stop a Clock ticks
pub kept_ticks : (start stop : ℕ) (clocks : List ClockState) (points : List ℕ) (clock p : ℕ) → IsKept start stop clocks points → clock < length clocks → get_or points clock 0 ≡ p → p ≤ stop → TicksAt (table_of start stop clocks) clock p
kept_ticks start stop clocks points clock p kept within is before =
    let state : ClockState = get_or clocks clock Unasked in
    let there : slice_get clocks clock ≡ Some state = slice_get-get_or clocks clock Unasked within in
    let point : point_of start stop state ≡ p = sym (kept_at start stop clocks points clock state kept there) ∙ is in
    (before, to_place (λ s. IsToTick start s p) (slice_get clocks clock) state there (ticks_at_point start stop state p kept.near point before))

-- no tick of a Clock is below its point
pub kept_least : (start stop : ℕ) (clocks : List ClockState) (points : List ℕ) (clock t : ℕ) → IsKept start stop clocks points → TicksAt (table_of start stop clocks) clock t → (clock < length points) × (get_or points clock 0 ≤ t)
kept_least start stop clocks points clock t kept (before, ticks) =
    let (state, there, tick) = place_of clocks clock (λ s. IsToTick start s t) ticks in
    let is : get_or points clock 0 ≡ point_of start stop state = kept_at start stop clocks points clock state kept there in
    let below : point_of start stop state ≤ t = point_below_tick start stop state t tick before in
    let len = kept_len start stop clocks points kept in
    let within : clock < length clocks = slice_get_within clocks clock state there in
    (omega arith, omega arith)

-- whether a Clock with this point ticks at `t`
pub due_iff : (start stop : ℕ) (clocks : List ClockState) (points : List ℕ) (clock t p : ℕ) (r : Bool) → IsKept start stop clocks points → clock < length clocks → p ≡ get_or points clock 0 → ((point : ℕ) → TicksAt (table_of start stop clocks) clock point → t ≤ point) → (IsTrue r ↔ ((p ≡ t) × (t ≤ stop))) → (IsTrue r ↔ TicksAt (table_of start stop clocks) clock t)
due_iff start stop clocks points clock t p r kept within is none_below test = (
  λ yes. let both = test.0 yes in kept_ticks start stop clocks points clock t kept within (sym is ∙ both.0) both.1,
  λ ticks.
      let before : t ≤ stop = ticks.0 in
      let below : get_or points clock 0 ≤ t = (kept_least start stop clocks points clock t kept ticks).1 in
      let here : TicksAt (table_of start stop clocks) clock p = kept_ticks start stop clocks points clock p kept within (sym is) (omega arith) in
      let above : t ≤ p = none_below p here in
      test.1 (omega arith, before),
)

-- the least point is one at which a Clock ticks
pub first_ticks : (start stop : ℕ) (clocks : List ClockState) (points : List ℕ) (p : ℕ) → IsKept start stop clocks points → SomeIndex points (λ c. get_or points c 0 ≡ p) → p ≤ stop → (clock : ℕ) × TicksAt (table_of start stop clocks) clock p
first_ticks start stop clocks points p kept (clock, within, is) before =
    let len = kept_len start stop clocks points kept in
    (clock, kept_ticks start stop clocks points clock p kept (omega arith) is before)

-- no Clock ticks below the least point
pub first_is_least : (start stop : ℕ) (clocks : List ClockState) (points : List ℕ) (p clock t : ℕ) → IsKept start stop clocks points → All (λ q. p ≤ q) points → TicksAt (table_of start stop clocks) clock t → p ≤ t
first_is_least start stop clocks points p clock t kept least ticks =
    let (within, below) = kept_least start stop clocks points clock t kept ticks in
    let lower : p ≤ get_or points clock 0 = least clock 0 within in
    omega arith

-- among no Clocks none ticks
pub none_ticks : (start stop : ℕ) (clocks : List ClockState) (points : List ℕ) (clock t : ℕ) → IsKept start stop clocks points → length points ≡ 0 → TicksAt (table_of start stop clocks) clock t → ⊥
none_ticks start stop clocks points clock t kept none ticks =
    let within = (kept_least start stop clocks points clock t kept ticks).0 in
    omega arith

-- a Clock that has a next tick goes on from it
pub record GoesOn (state : ClockState) : Type 0 where
  pub count : HasCount state
  pub near : (new : ClockState) → new ≡ after_tick state → IsNear new
  pub sound : (new : ClockState) → new ≡ after_tick state → IsSoundState new

pub next_within : (table : Timetable) (clock : ℕ) → HasNext table clock → clock < length table.clocks
next_within table clock (t, (before, ticks)) =
    let (state, there, tick) = place_of table.clocks clock (λ s. IsToTick table.start s t) ticks in
    slice_get_within table.clocks clock state there

pub goes_on : (start stop : ℕ) (clocks : List ClockState) (points : List ℕ) (clock : ℕ) (state : ClockState) → IsKept start stop clocks points → state ≡ get_or clocks clock state → HasNext (table_of start stop clocks) clock → GoesOn state
goes_on start stop clocks points clock state kept is next =
    let within : clock < length clocks = next_within (table_of start stop clocks) clock next in
    let there : slice_get clocks clock ≡ Some state = slice_get_read clocks (length clocks) clock state refl within is in
    let t : ℕ = next.0 in
    let before : t ≤ stop = next.1.0 in
    let tick : IsToTick start state t = at_place (λ s. IsToTick start s t) (slice_get clocks clock) state there next.1.1 in
    let sound : IsSoundState state = (let P : ClockState → Type 0 = IsSoundState in subst P (sym is) (All-get_or IsSoundState clocks clock state within kept.sound)) in
    record {
      count = can_count start stop state t kept.near sound tick before;
      near = λ new same. let P : ClockState → Type 0 = IsNear in subst P (sym same) (is_near_after start stop state t kept.near sound tick before);
      sound = λ new same. let P : ClockState → Type 0 = IsSoundState in subst P (sym same) (is_sound_after state sound);
    }

-- a Clock that stands nowhere, where an element has to be named
nowhere : TimeClock
nowhere = record { variability = Triggered; interval = None; shift = None }

-- Clocks before the first instant
pub first_sound : (clocks : List TimeClock) → All IsSoundClock clocks → All (λ s. IsSoundState s × IsNear s) (map first_state clocks)
first_sound clocks sound k d within =
    let inside : k < length clocks = (let len = length-map clocks first_state in omega arith) in
    let clock : TimeClock = get_or clocks k nowhere in
    let s : IsSoundClock clock = sound k nowhere inside in
    let P : ClockState → Type 0 = λ s. IsSoundState s × IsNear s in
    subst P (sym (get_or-map first_state clocks k nowhere d inside)) (sound_first clock.variability clock.interval clock.shift s.interval s.shift)

pub first_near : (clocks : List TimeClock) (states : List ClockState) → All IsSoundClock clocks → states ≡ map first_state clocks → All IsNear states
first_near clocks states sound first = let P : List ClockState → Type 0 = All IsNear in subst P (sym first) (λ k d within. (first_sound clocks sound k d within).1)

-- ---- Clocks, and after them components

get_left : {X : Type 0} (xs ys : List X) (i : ℕ) → i < length xs → slice_get (xs ++ ys) i ≡ slice_get xs i
get_left [] ys i lt = absurd (omega (arith, lt))
get_left (x ∷ xs) ys zero lt = refl
get_left (x ∷ xs) ys (suc i) lt = get_left xs ys i (omega (arith, lt))

get_right : {X : Type 0} (xs ys : List X) (i : ℕ) → slice_get (xs ++ ys) (length xs + i) ≡ slice_get ys i
get_right [] ys i = ap (slice_get ys) (let same : 0 + i ≡ i = omega arith in same)
get_right (x ∷ xs) ys i = ap (slice_get (x ∷ xs ++ ys)) (let same : suc (length xs) + i ≡ suc (length xs + i) = omega arith in same) ∙ get_right xs ys i

set_right : {X : Type 0} (xs ys : List X) (i : ℕ) (a : X) → set (xs ++ ys) (length xs + i) a ≡ xs ++ set ys i a
set_right [] ys i a = ap (λ k. set ys k a) (let same : 0 + i ≡ i = omega arith in same)
set_right (x ∷ xs) ys i a = ap (λ k. set (x ∷ xs ++ ys) k a) (let same : suc (length xs) + i ≡ suc (length xs + i) = omega arith in same) ∙ ap (λ zs. x ∷ zs) (set_right xs ys i a)

module _ (start stop : ℕ) (clocks : List ClockState) (events : List (Option ℕ)) where
  abbrev table : Timetable
  table = record { start = start; stop = stop; clocks = clocks; events = events }

  abbrev all : List ClockState
  all = entries clocks events

  pub entries_len : length all ≡ length clocks + length events
  entries_len = length-append clocks (map event_state events) ∙ ap (λ n. length clocks + n) (length-map events event_state)

  -- a Clock's ticks
  pub ticks_in : (clock t : ℕ) → clock < length clocks → TicksAt table clock t → TicksAt (table_of start stop all) clock t
  ticks_in clock t within h = (h.0, subst (λ o. IsSomeAnd o (λ state. IsToTick start state t)) (sym (get_left clocks (map event_state events) clock within)) h.1)

  pub ticks_out : (clock t : ℕ) → clock < length clocks → TicksAt (table_of start stop all) clock t → TicksAt table clock t
  ticks_out clock t within h = (h.0, subst (λ o. IsSomeAnd o (λ state. IsToTick start state t)) (get_left clocks (map event_state events) clock within) h.1)

  pub ticks_within : (clock t : ℕ) → TicksAt table clock t → clock < length clocks
  ticks_within clock t h = let (state, there, tick) = place_of clocks clock (λ s. IsToTick start s t) h.1 in slice_get_within clocks clock state there

  event_place : (component : ℕ) (o : Option (Option ℕ)) → slice_get events component ≡ o → slice_get all (length clocks + component) ≡ option_map event_state o
  event_place component o e = get_right clocks (map event_state events) component ∙ slice_get-map event_state events component ∙ ap (option_map event_state) e

  -- a component's event time
  pub event_in : (component t : ℕ) → EventAt table component t → TicksAt (table_of start stop all) (length clocks + component) t
  event_in component t h = (h.0, subst (λ o. IsSomeAnd o (λ state. IsToTick start state t)) (sym (event_place component (Some (Some t)) h.1)) refl)

  pub event_out : (component t : ℕ) → TicksAt (table_of start stop all) (length clocks + component) t → EventAt table component t
  event_out component t h = (h.0, at (slice_get events component) refl)
    where
      at : (o : Option (Option ℕ)) → slice_get events component ≡ o → slice_get events component ≡ Some (Some t)
      at None e = absurd (subst (λ o. IsSomeAnd o (λ state. IsToTick start state t)) (event_place component None e) h.1)
      at (Some point) e =
          let tick : IsToTick start (event_state point) t = subst (λ o. IsSomeAnd o (λ state. IsToTick start state t)) (event_place component (Some point) e) h.1 in
          e ∙ ap Some tick

  -- each place is a Clock's or a component's
  pub place_is : (k t : ℕ) → TicksAt (table_of start stop all) k t → ((clock : ℕ) × TicksAt table clock t) ⊎ ((component : ℕ) × EventAt table component t)
  place_is k t h = (elim (cases_lt k (length clocks)) [
    | inl within ↦ inl (k, ticks_out k t within h)
    | inr after ↦
        let component = k - length clocks in
        let same : k ≡ length clocks + component = omega (arith, after) in
        inr (component, event_out component t (subst (λ p. TicksAt (table_of start stop all) p t) same h))
  ])

  pub set_clock : (clock : ℕ) (state : ClockState) → clock < length clocks → set all clock state ≡ entries (set clocks clock state) events
  set_clock clock state within = set-append_left clocks (map event_state events) clock state within

  pub set_event : (component : ℕ) (point : Option ℕ) → set all (length clocks + component) (event_state point) ≡ entries clocks (set events component point)
  set_event component point = set_right clocks (map event_state events) component (event_state point) ∙ ap (λ xs. clocks ++ xs) (sym (map-set event_state events component point))

-- a Clock that ticks goes on
pub goes_on_clock : (start stop : ℕ) (clocks : List ClockState) (events : List (Option ℕ)) (points : List ℕ) (clock : ℕ) (state : ClockState) → IsKept start stop (entries clocks events) points → state ≡ get_or clocks clock state → HasNext (record { start = start; stop = stop; clocks = clocks; events = events }) clock → GoesOn state
goes_on_clock start stop clocks events points clock state kept is next =
    let within = next_within (record { start = start; stop = stop; clocks = clocks; events = events }) clock next in
    goes_on start stop (entries clocks events) points clock state kept (is ∙ sym (get_or_append_left clocks (map event_state events) state clock within)) (next.0, ticks_in start stop clocks events clock next.0 within next.1)

-- a Clock stands elsewhere, or a component has another event time
pub kept_clock : (start stop : ℕ) (clocks : List ClockState) (events : List (Option ℕ)) (points new : List ℕ) (clock : ℕ) (state : ClockState) (p : ℕ) → IsKept start stop (entries clocks events) points → clock < length clocks → IsSoundState state → p ≡ point_of start stop state → new ≡ set points clock p → IsKept start stop (entries (set clocks clock state) events) new
kept_clock start stop clocks events points new clock state p kept within sound is entered =
    subst (λ xs. IsKept start stop xs new) (set_clock start stop clocks events clock state within) (kept_set start stop (entries clocks events) points new clock state p kept sound is entered)

pub kept_event : (start stop : ℕ) (clocks : List ClockState) (events : List (Option ℕ)) (points new : List ℕ) (component place : ℕ) (point : Option ℕ) (p : ℕ) → IsKept start stop (entries clocks events) points → place ≡ length clocks + component → p ≡ point_of start stop (event_state point) → new ≡ set points place p → IsKept start stop (entries clocks (set events component point)) new
kept_event start stop clocks events points new component place point p kept there is entered =
    subst (λ xs. IsKept start stop xs new) (set_event start stop clocks events component point)
    (kept_set start stop (entries clocks events) points new (length clocks + component) (event_state point) p kept tt is (entered ∙ ap (λ k. set points k p) there))

-- before the first instant no component has an event time
pasts : (start stop n k : ℕ) → k < n → get_or (map (point_of start stop) (map event_state (replicate n None))) k 0 ≡ past
pasts start stop n k lt =
    get_or-map (point_of start stop) (map event_state (replicate n None)) k (event_state None) 0 (let l = length-map {A = Option ℕ} (replicate n None) event_state in let m : length {A = Option ℕ} (replicate n None) ≡ n = length-replicate n None in omega (arith, lt, l, m))
    ∙ ap (point_of start stop) (get_or-map event_state (replicate n None) k None (event_state None) (let m : length {A = Option ℕ} (replicate n None) ≡ n = length-replicate n None in omega (arith, lt, m)) ∙ ap event_state (get_or-replicate n k None None lt))

module _ (start stop : ℕ) (clocks : List ClockState) (components : ℕ) where
  abbrev firsts : List ℕ
  firsts = map (point_of start stop) (entries clocks (replicate components None))

  abbrev of_clocks : List ℕ
  of_clocks = map (point_of start stop) clocks

  abbrev of_components : List ℕ
  of_components = map (point_of start stop) (map event_state (replicate components None))

  split : firsts ≡ of_clocks ++ of_components
  split = map-append (point_of start stop) clocks (map event_state (replicate components None))

  len_firsts : length firsts ≡ length clocks + components
  len_firsts = length-map (entries clocks (replicate components None)) (point_of start stop) ∙ entries_len start stop clocks (replicate components None) ∙ ap (λ n. length clocks + n) (length-replicate components None)

  len_clocks : length of_clocks ≡ length clocks
  len_clocks = length-map clocks (point_of start stop)

  pub first_entered : (points : List ℕ) → length points ≡ length clocks + components →
      ((k : ℕ) → k < length clocks → get_or points k 0 ≡ get_or of_clocks k 0) → ((k : ℕ) → length clocks ≤ k → k < length points → get_or points k 0 ≡ past) → points ≡ firsts
  first_entered points len entered rest = ext_get_or 0 points firsts (len ∙ sym len_firsts) (λ k lt. (elim (cases_lt k (length clocks)) as (λ c. get_or points k 0 ≡ get_or firsts k 0) [
    | inl within ↦
        let l = len_clocks in
        entered k within ∙ sym (get_or_append_left of_clocks of_components 0 k (omega (arith, within, l))) ∙ ap (λ xs. get_or xs k 0) (sym split)
    | inr after ↦
        let l = len_clocks in
        rest k after lt ∙ sym (pasts start stop components (k - length clocks) (omega (arith, after, lt, len)))
        ∙ sym (get_or-append_right of_clocks of_components (length clocks) k 0 l after) ∙ ap (λ xs. get_or xs k 0) (sym split)
  ]))

-- before the first instant
pub none_sound : (clocks : List ClockState) (components : ℕ) → All IsSoundState clocks → All IsSoundState (entries clocks (replicate components None))
none_sound clocks components sound = All-append IsSoundState clocks (map event_state (replicate components None)) sound (each components)
  where
    each : (n : ℕ) → All IsSoundState (map event_state (replicate n None))
    each n k d within =
        let Q : ClockState → Type 0 = IsSoundState in
        subst Q (sym (get_or-map event_state (replicate n None) k None d (let l = length-map (replicate n None) event_state in omega (arith, within, l)))) tt

pub entries_kept : (start stop : ℕ) (clocks : List ClockState) (components : ℕ) (points : List ℕ) → start ≤ stop → stop ≤ 2 ^ 62 → All IsSoundState clocks → points ≡ map (point_of start stop) (entries clocks (replicate components None)) → IsKept start stop (entries clocks (replicate components None)) points
entries_kept start stop clocks components points run near sound entered = record { run = run; near = near; sound = none_sound clocks components sound; entered = entered }

pub first_sound_all : (clocks : List TimeClock) (states : List ClockState) → All IsSoundClock clocks → states ≡ map first_state clocks → All IsSoundState states
first_sound_all clocks states sound first = let P : List ClockState → Type 0 = All IsSoundState in subst P (sym first) (λ k d within. (first_sound clocks sound k d within).0)

-- what is entered at first is what is kept
pub kept_at_first : (start stop components count : ℕ) (states slice : List ClockState) (events : List (Option ℕ)) (old points : List ℕ) → start ≤ stop → stop ≤ 2 ^ 62 → All IsSoundState states → slice ≡ states → events ≡ replicate components None →
    count ≡ length slice + components → old ≡ replicate count past → length points ≡ length old →
    ((k : ℕ) → k < length slice → get_or points k 0 ≡ get_or (map (point_of start stop) slice) k 0) → ((k : ℕ) → length slice ≤ k → k < length old → get_or points k 0 ≡ past) → IsKept start stop (entries states events) points
kept_at_first start stop components count states slice events old points run near sound same none sum is len entered rest =
    let size : length old ≡ count = ap length is ∙ length-replicate count past in
    let all = first_entered start stop slice components points (omega (arith, len, size, sum)) entered (λ k le lt. rest k le (omega (arith, lt, len))) in
    let kept = entries_kept start stop slice components points run near (subst (All IsSoundState) (sym same) sound) all in
    subst (λ xs. IsKept start stop (entries xs events) points) same (subst (λ es. IsKept start stop (entries slice es) points) (sym none) kept)

-- after a point
near_up_to : (start shift interval t : ℕ) → 0 < interval → interval ≤ 2 ^ 126 → t ≤ 2 ^ 62 → ticks_up_to start shift interval t * interval ≤ 2 ^ 126 + 2 ^ 62
near_up_to start shift interval t moves small near = (elim (cases_lt t (start + shift)) as (λ c. ticks_up_to start shift interval t * interval ≤ 2 ^ 126 + 2 ^ 62) [
  | inl early ↦
      let none : ticks_up_to start shift interval t ≡ 0 = ap (λ b. if b then 0 else (t - (start + shift)) / interval + 1) (lt-ltb t (start + shift) early) in
      let is : ticks_up_to start shift interval t * interval ≡ 0 * interval = ap (λ n. n * interval) none in
      omega (arith, is)
  | inr late ↦
      let q = (t - (start + shift)) / interval in
      let some : ticks_up_to start shift interval t ≡ q + 1 = ap (λ b. if b then 0 else (t - (start + shift)) / interval + 1) (le-ltb t (start + shift) late) in
      let parts : q * interval + (t - (start + shift)) % interval ≡ t - (start + shift) = div-add-mod' (t - (start + shift)) interval in
      let more : (q + 1) * interval ≡ q * interval + interval = grind arith in
      let is : ticks_up_to start shift interval t * interval ≡ (q + 1) * interval = ap (λ n. n * interval) some in
      omega (arith, parts, more, is, near, small)
])

sound_resumed : (start t : ℕ) (state : ClockState) → t ≤ 2 ^ 62 → IsSoundState state → IsSoundState (resumed_in start t state) × IsNear (resumed_in start t state)
sound_resumed start t Unasked near sound = (tt, tt)
sound_resumed start t (Periodic interval shift ticks) near sound = (sound, (sound.2, near_up_to start shift interval t sound.0 sound.1 near))
sound_resumed start t (Countdown armed) near sound = (tt, tt)

resumed_both : (start t : ℕ) (clocks : List TimeClock) → t ≤ 2 ^ 62 → All IsSoundClock clocks → All (λ s. IsSoundState s × IsNear s) (map (resumed_state start t) clocks)
resumed_both start t clocks near sound k d within =
    let inside : k < length clocks = (let len = length-map clocks (resumed_state start t) in omega arith) in
    let clock : TimeClock = get_or clocks k nowhere in
    let s : IsSoundClock clock = sound k nowhere inside in
    let P : ClockState → Type 0 = λ s. IsSoundState s × IsNear s in
    subst P (sym (get_or-map (resumed_state start t) clocks k nowhere d inside)) (sound_resumed start t (first_state clock) near (sound_first clock.variability clock.interval clock.shift s.interval s.shift).0)

pub resumed_sound : (start t : ℕ) (clocks : List TimeClock) (states : List ClockState) → t ≤ 2 ^ 62 → All IsSoundClock clocks → states ≡ map (resumed_state start t) clocks → All IsSoundState states
resumed_sound start t clocks states near sound is = let P : List ClockState → Type 0 = All IsSoundState in subst P (sym is) (λ k d within. (resumed_both start t clocks near sound k d within).0)

pub resumed_near : (start t : ℕ) (clocks : List TimeClock) (states : List ClockState) → t ≤ 2 ^ 62 → All IsSoundClock clocks → states ≡ map (resumed_state start t) clocks → All IsNear states
resumed_near start t clocks states near sound is = let P : List ClockState → Type 0 = All IsNear in subst P (sym is) (λ k d within. (resumed_both start t clocks near sound k d within).1)

pub first_state_sound : (clock : TimeClock) → IsSoundClock clock → IsSoundState (first_state clock)
first_state_sound clock s = (sound_first clock.variability clock.interval clock.shift s.interval s.shift).0

-- the event time of a component by its next point
pub event_told : (start stop : ℕ) (clocks : List ClockState) (events : List (Option ℕ)) (points : List ℕ) (component p : ℕ) → IsKept start stop (entries clocks events) points → component < length events → p ≡ get_or points (length clocks + component) 0 →
    IfSome (if nat_le p stop then Some p else None) (EventAt (record { start = start; stop = stop; clocks = clocks; events = events }) component)
event_told start stop clocks events points component p kept within is = at (nat_le p stop) refl
  where
    at : (b : Bool) → nat_le p stop ≡ b → IfSome (if b then Some p else None) (EventAt (record { start = start; stop = stop; clocks = clocks; events = events }) component)
    at false e = tt
    at true e =
        let len = entries_len start stop clocks events in
        let before : p ≤ stop = leb-true p stop e in
        event_out start stop clocks events component p (kept_ticks start stop (entries clocks events) points (length clocks + component) p kept (omega (arith, within, len)) (sym is) before)

pub no_event_told : (start stop : ℕ) (clocks : List ClockState) (events : List (Option ℕ)) (points : List ℕ) (component p : ℕ) → IsKept start stop (entries clocks events) points → p ≡ get_or points (length clocks + component) 0 →
    IfNone (if nat_le p stop then Some p else None) ((point : ℕ) → EventAt (record { start = start; stop = stop; clocks = clocks; events = events }) component point → ⊥)
no_event_told start stop clocks events points component p kept is = at (nat_le p stop) refl
  where
    at : (b : Bool) → nat_le p stop ≡ b → IfNone (if b then Some p else None) ((point : ℕ) → EventAt (record { start = start; stop = stop; clocks = clocks; events = events }) component point → ⊥)
    at true e = tt
    at false e = λ point event.
        let least = (kept_least start stop (entries clocks events) points (length clocks + component) point kept (event_in start stop clocks events component point event)).1 in
        let past : stop < p = leb-false p stop e in
        let before : point ≤ stop = event.0 in
        omega (arith, least, past, before, is)

-- the next point of a Clock by what is kept of it
pub tick_told : (start stop : ℕ) (clocks : List ClockState) (events : List (Option ℕ)) (points : List ℕ) (clock p : ℕ) → IsKept start stop (entries clocks events) points → clock < length clocks → p ≡ get_or points clock 0 →
    IfSome (if nat_le p stop then Some p else None) (TicksAt (record { start = start; stop = stop; clocks = clocks; events = events }) clock)
tick_told start stop clocks events points clock p kept within is = at (nat_le p stop) refl
  where
    at : (b : Bool) → nat_le p stop ≡ b → IfSome (if b then Some p else None) (TicksAt (record { start = start; stop = stop; clocks = clocks; events = events }) clock)
    at false e = tt
    at true e =
        let len = entries_len start stop clocks events in
        let before : p ≤ stop = leb-true p stop e in
        ticks_out start stop clocks events clock p within (kept_ticks start stop (entries clocks events) points clock p kept (omega (arith, within, len)) (sym is) before)

-- no tick is below it
pub least_told : (start stop : ℕ) (clocks : List ClockState) (events : List (Option ℕ)) (points : List ℕ) (clock p : ℕ) → IsKept start stop (entries clocks events) points → clock < length clocks → p ≡ get_or points clock 0 →
    IfSome (if nat_le p stop then Some p else None) (λ point. (other : ℕ) → TicksAt (record { start = start; stop = stop; clocks = clocks; events = events }) clock other → point ≤ other)
least_told start stop clocks events points clock p kept within is = at (nat_le p stop) refl
  where
    at : (b : Bool) → nat_le p stop ≡ b → IfSome (if b then Some p else None) (λ point. (other : ℕ) → TicksAt (record { start = start; stop = stop; clocks = clocks; events = events }) clock other → point ≤ other)
    at false e = tt
    at true e = λ other ticks.
        let least = (kept_least start stop (entries clocks events) points clock other kept (ticks_in start stop clocks events clock other within ticks)).1 in
        omega (arith, least, is)

pub no_tick_told : (start stop : ℕ) (clocks : List ClockState) (events : List (Option ℕ)) (points : List ℕ) (clock p : ℕ) → IsKept start stop (entries clocks events) points → clock < length clocks → p ≡ get_or points clock 0 →
    IfNone (if nat_le p stop then Some p else None) ((point : ℕ) → TicksAt (record { start = start; stop = stop; clocks = clocks; events = events }) clock point → ⊥)
no_tick_told start stop clocks events points clock p kept within is = at (nat_le p stop) refl
  where
    at : (b : Bool) → nat_le p stop ≡ b → IfNone (if b then Some p else None) ((point : ℕ) → TicksAt (record { start = start; stop = stop; clocks = clocks; events = events }) clock point → ⊥)
    at true e = tt
    at false e = λ point ticks.
        let least = (kept_least start stop (entries clocks events) points clock point kept (ticks_in start stop clocks events clock point within ticks)).1 in
        let past : stop < p = leb-false p stop e in
        let before : point ≤ stop = ticks.0 in
        omega (arith, least, past, before, is)

-- the interval and the shift that are told of a Clock are within bounds
pub timing_bounds : (state : ClockState) → IsSoundState state → IfSome (timing_in state) (λ (timing : ℕ × ℕ). (0 < timing.0) × (timing.0 ≤ 2 ^ 126) × (timing.1 ≤ 2 ^ 126))
timing_bounds Unasked sound = tt
timing_bounds (Periodic interval shift ticks) sound = sound
timing_bounds (Countdown armed) sound = tt
