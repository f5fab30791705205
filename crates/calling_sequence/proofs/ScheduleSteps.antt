-- The bound of a step by the schedule's next tick or event time, and where the schedule stands after the step.
use Rattle.std.proofs.Common.{◌≡◌, ◌⊎◌, inl, inr, ℕ, ℤ, length, zero, suc, ◌+◌, ◌*◌, ◌<◌, ◌≤◌, Bool, true, false, List, [], ◌∷◌, Option, Some, None, refl, sym, ap, ◌∙◌, subst, arith, get_or, map}
use Rattle.std.specs.Prelude.{All, IfSome, IsSomeAnd, ◌||◌, ◌==◌, min, nat_lt, slice_get}
use Rattle.std.specs.List.{list_any}
use Rattle.std.proofs.Math.Nat.{mul-le-mul_left}
use Rattle.std.proofs.lemmas.Bool.Decides.{nat_tests}
use Rattle.std.proofs.lemmas.List.Elements.{All-head, All-tail}
use Rattle.std.proofs.lemmas.Option.{same_Some, slice_get-get_or}
use Rattle.tick_schedule.specs.declared.clock.ClockState.{ClockState}
use Rattle.tick_schedule.specs.declared.clock.ClockState.TheVariants as S
use Rattle.tick_schedule.specs.Timetable.{EventAt, IsToTick, TicksAt, Timetable}
use Rattle.system_model.specs.declared.plan.Plan.{Plan}
use Rattle.system_model.specs.declared.system.System.{System}
use Rattle.run_model.specs.Run.{Timer}
use Rattle.run_model.specs.Steps.{AtEvent, AtTick, IsBound, IsMark, OnGrid, OnStop, SomeEventAt, SomeTicksAt}
use Rattle.run_model.specs.Timers.{TicksAt as TimerTicksAt, is_armed_for}
use Rattle.event_iteration.proofs.ByLog.{are_ticks}
use Rattle.event_iteration.specs.Clocks.{AreTicks, IsNextFrom, StandsAt, first_table, is_due_at, timer_in, timers_in}
use Rattle.event_iteration.specs.Intervals.{is_some_armed}
use Rattle.event_iteration.specs.Updates.{AreLater, with_events}
use Rattle.calling_sequence.specs.declared.buffers.Buffers.{Buffers}
use Rattle.calling_sequence.specs.declared.experiment.Experiment.{Experiment}
use Rattle.calling_sequence.specs.Calls.{IsBoundOf}
use Rattle.calling_sequence.specs.Course.{Begins}
use Rattle.system_model.specs.Plans.{IsPlan}
use Rattle.calling_sequence.specs.Ready.{AreTimed}

-- ---- one Clock

-- a tick that a Clock still has to make is one of its timer
tick_of : (start point : ℕ) (state : ClockState) → IsToTick start state point → TimerTicksAt start (timer_in state) point
tick_of start point S.Unasked h = h
tick_of start point (S.Periodic interval shift ticks) h = h.0
tick_of start point (S.Countdown None) h = absurd (cc)
tick_of start point (S.Countdown (Some armed)) h = sym (same_Some _ _ h)

not_below : (a b : ℕ) → (b < a → ⊥) → a ≤ b
not_below a b none = by_test (nat_lt b a) refl where
  by_test : (test : Bool) → nat_lt b a ≡ test → a ≤ b
  by_test true is = let w : b < a = grind (arith, nat_tests) in absurd (none w)
  by_test false is = grind (arith, nat_tests)

-- and one of its timer after the point is still to be made
left_of : (start t point : ℕ) (state : ClockState) → IsNextFrom start t false state → t < point → TimerTicksAt start (timer_in state) point → IsToTick start state point
left_of start t point S.Unasked next later h = h
left_of start t point (S.Periodic interval shift ticks) next later h =
    let is = h.1 in
    let made : ticks ≤ h.0 = not_below ticks h.0 (λ w. let b = next.1 h.0 w in omega (arith, is, b, later)) in
    let far = mul-le-mul_left interval made in
    (h, omega (arith, is, far))
left_of start t point (S.Countdown None) next later h = absurd h
left_of start t point (S.Countdown (Some armed)) next later h = ap Some (sym h)

-- none is to be made up to the point where the Clock isn't armed for it
later_of : (start t point : ℕ) (state : ClockState) → IsNextFrom start t false state → is_armed_for t (timer_in state) ≡ false → IsToTick start state point → t < point
later_of start t point S.Unasked next none h = absurd h
later_of start t point (S.Periodic interval shift ticks) next none h = let first = next.0 in let from = h.1 in omega (arith, first, from)
later_of start t point (S.Countdown None) next none h = absurd (cc)
later_of start t point (S.Countdown (Some armed)) next none h = let is : armed ≡ point = same_Some _ _ h in grind (arith, nat_tests)

-- ---- all

pub neither : (a b : Bool) → (a || b) ≡ false → (a ≡ false) × (b ≡ false)
neither true b h = absurd (cc)
neither false b h = (refl, h)

none_armed_at : (t : ℕ) (clocks : List ClockState) → list_any (is_armed_for t) (map timer_in clocks) ≡ false → (clock : ℕ) (state : ClockState) → slice_get clocks clock ≡ Some state → is_armed_for t (timer_in state) ≡ false
none_armed_at t [] none clock state is = absurd (cc)
none_armed_at t (x ∷ xs) none zero state is =
    ap (λ (s : ClockState). is_armed_for t (timer_in s)) (sym (same_Some _ _ is)) ∙ (neither (is_armed_for t (timer_in x)) (list_any (is_armed_for t) (map timer_in xs)) none).0
none_armed_at t (x ∷ xs) none (suc clock) state is =
    none_armed_at t xs (neither (is_armed_for t (timer_in x)) (list_any (is_armed_for t) (map timer_in xs)) none).1 clock state is

all_at : (P : ClockState → Type 0) (clocks : List ClockState) → All P clocks → (clock : ℕ) (state : ClockState) → slice_get clocks clock ≡ Some state → P state
all_at P [] all clock state is = absurd (cc)
all_at P (x ∷ xs) all zero state is = subst P (same_Some _ _ is) (All-head P x xs all)
all_at P (x ∷ xs) all (suc clock) state is = all_at P xs (All-tail P x xs all) clock state is

timer_at : (clocks : List ClockState) (clock : ℕ) (state : ClockState) → slice_get clocks clock ≡ Some state → slice_get (map timer_in clocks) clock ≡ Some (timer_in state)
timer_at [] clock state is = absurd (cc)
timer_at (x ∷ xs) zero state is = ap (λ (s : ClockState). Some (timer_in s)) (same_Some _ _ is)
timer_at (x ∷ xs) (suc clock) state is = timer_at xs clock state is

state_at : (clocks : List ClockState) (clock : ℕ) (timer : Timer) → slice_get (map timer_in clocks) clock ≡ Some timer → (state : ClockState) × (slice_get clocks clock ≡ Some state) × (timer_in state ≡ timer)
state_at [] clock timer is = absurd (cc)
state_at (x ∷ xs) zero timer is = (x, refl, same_Some _ _ is)
state_at (x ∷ xs) (suc clock) timer is = state_at xs clock timer is

some_at : (P : ClockState → Type 0) (o : Option ClockState) → IsSomeAnd o P → (state : ClockState) × (o ≡ Some state) × P state
some_at P None h = absurd h
some_at P (Some state) h = (state, refl, h)

no_mark : (start point : ℕ) → SomeTicksAt start [] point → ⊥
no_mark start point (p, timer, at, ticks) = cc

no_event : (point : ℕ) → SomeEventAt [] point → ⊥
no_event point (i, at) = cc

-- an event time that a component has lies after the point
event_later : (t : ℕ) (events : List (Option ℕ)) → AreLater t events → (i time : ℕ) → slice_get events i ≡ Some (Some time) → t < time
event_later t [] later i time is = absurd (cc)
event_later t (e ∷ es) later zero time is = subst (λ (o : Option ℕ). IfSome o (λ x. t < x)) (same_Some _ _ is) (All-head (λ (o : Option ℕ). IfSome o (λ x. t < x)) e es later)
event_later t (e ∷ es) later (suc i) time is = event_later t es (All-tail (λ (o : Option ℕ). IfSome o (λ x. t < x)) e es later) i time is

pub events_up_to : (table : Timetable) (t : ℕ) → AreLater t table.events → (component point : ℕ) → EventAt table component point → t < point
events_up_to table t later component point h = event_later t table.events later component point h.1

module _ (table : Timetable) (t : ℕ) (next : All (IsNextFrom table.start t false) table.clocks) (none : is_some_armed t (timers_in table) ≡ false) where
  -- each tick that is still to be made lies after the point
  pub none_up_to : (clock point : ℕ) → TicksAt table clock point → t < point
  none_up_to clock point h =
      let s = some_at (λ state. IsToTick table.start state point) (slice_get table.clocks clock) h.1 in
      later_of table.start t point s.0 (all_at (IsNextFrom table.start t false) table.clocks next clock s.0 s.1) (none_armed_at t table.clocks none clock s.0 s.1) s.2

  some_ticks : (clock point : ℕ) → TicksAt table clock point → SomeTicksAt table.start (timers_in table) point
  some_ticks clock point h =
      let s = some_at (λ state. IsToTick table.start state point) (slice_get table.clocks clock) h.1 in
      (clock, timer_in s.0, timer_at table.clocks clock s.0 s.1, tick_of table.start point s.0 s.2)

  tick_left : (point : ℕ) → t < point → point ≤ table.stop → SomeTicksAt table.start (timers_in table) point → (clock : ℕ) × TicksAt table clock point
  tick_left point later within (p, timer, at, ticks) =
      let s = state_at table.clocks p timer at in
      let left : IsToTick table.start s.0 point = left_of table.start t point s.0 (all_at (IsNextFrom table.start t false) table.clocks next p s.0 s.1) later
      (subst (λ (x : Timer). TimerTicksAt table.start x point) (sym s.2) ticks) in
      (p, (within, subst (λ (o : Option ClockState). IsSomeAnd o (λ state. IsToTick table.start state point)) (sym s.1) left))

  module _ (plan : Plan) (starts : table.start ≡ plan.start) (stops : table.stop ≡ plan.stop) (before : t < plan.stop) (mark : ℕ) (b : IsBound plan [] [] t mark) where
    most : mark ≤ plan.stop
    most = b.least plan.stop before (OnStop refl)

    marks : (point : ℕ) → IsMark plan [] [] point → IsMark plan (timers_in table) table.events point
    marks point (OnGrid h) = OnGrid h
    marks point (AtTick h) = absurd (no_mark plan.start point h)
    marks point (AtEvent h) = absurd (no_event point h)
    marks point (OnStop h) = OnStop h

    -- below the ticks, the event times and the mark
    least_by : (bound : ℕ) → bound ≤ mark → ((clock other : ℕ) → TicksAt table clock other → bound ≤ other) → ((component other : ℕ) → EventAt table component other → bound ≤ other) → (point : ℕ) → t < point →
        IsMark plan (timers_in table) table.events point → bound ≤ point
    least_by bound low ticks events point later (OnGrid h) = let l = b.least point later (OnGrid h) in omega (arith, low, l)
    least_by bound low ticks events point later (OnStop h) = let l = b.least point later (OnStop h) in omega (arith, low, l)
    least_by bound low ticks events point later (AtEvent h) = by_test (nat_lt plan.stop point) refl where
      by_test : (test : Bool) → nat_lt plan.stop point ≡ test → bound ≤ point
      by_test true is = let past : plan.stop < point = grind (arith, nat_tests) in let m = most in omega (arith, low, m, past)
      by_test false is =
          let within : point ≤ plan.stop = grind (arith, nat_tests) in
          events h.0 point (subst (λ (s : ℕ). point ≤ s) (sym stops) within, h.1)
    least_by bound low ticks events point later (AtTick h) = by_test (nat_lt plan.stop point) refl where
      by_test : (test : Bool) → nat_lt plan.stop point ≡ test → bound ≤ point
      by_test true is = let past : plan.stop < point = grind (arith, nat_tests) in let m = most in omega (arith, low, m, past)
      by_test false is =
          let within : point ≤ plan.stop = grind (arith, nat_tests) in
          let left = tick_left point later (subst (λ (s : ℕ). point ≤ s) (sym stops) within) (subst (λ (s : ℕ). SomeTicksAt s (timers_in table) point) (sym starts) h) in
          ticks left.0 point left.1

    -- no tick and no event time is left
    pub bound_alone : ((clock point : ℕ) → TicksAt table clock point → ⊥) → ((component point : ℕ) → EventAt table component point → ⊥) → IsBound plan (timers_in table) table.events t mark
    bound_alone alone none_left = record {
      later = b.later;
      mark = marks mark b.mark;
      least = least_by mark (omega arith) (λ clock other h. absurd (alone clock other h)) (λ component other h. absurd (none_left component other h));
    }

    -- a tick or an event time is a mark
    found_mark : (point : ℕ) → ((clock : ℕ) × TicksAt table clock point) ⊎ ((component : ℕ) × EventAt table component point) → IsMark plan (timers_in table) table.events point
    found_mark point (inl due) = AtTick (subst (λ (s : ℕ). SomeTicksAt s (timers_in table) point) starts (some_ticks due.0 point due.1))
    found_mark point (inr due) = AtEvent (due.0, due.1.1)

    -- the next tick or event time, or the mark before it
    pub bound_tick : (tick : ℕ) → ((clock : ℕ) × TicksAt table clock tick) ⊎ ((component : ℕ) × EventAt table component tick) → t < tick → ((clock other : ℕ) → TicksAt table clock other → tick ≤ other) → ((component other : ℕ) → EventAt table component other → tick ≤ other) →
        IsBound plan (timers_in table) table.events t (min mark tick)
    bound_tick tick due after least least_event = by_test (nat_lt tick mark) refl where
      by_test : (test : Bool) → nat_lt tick mark ≡ test → IsBound plan (timers_in table) table.events t (min mark tick)
      by_test true is =
          let low : tick < mark = grind (arith, nat_tests) in
          let same : min mark tick ≡ tick = omega (arith, low) in
          subst (IsBound plan (timers_in table) table.events t) (sym same) (record {
            later = after;
            mark = found_mark tick due;
            least = least_by tick (omega (arith, low)) least least_event;
          })
      by_test false is =
          let high : mark ≤ tick = grind (arith, nat_tests) in
          let same : min mark tick ≡ mark = omega (arith, high) in
          subst (IsBound plan (timers_in table) table.events t) (sym same) (record {
            later = b.later;
            mark = marks mark b.mark;
            least = least_by mark (omega arith) (λ clock other h. let l = least clock other h in omega (arith, high, l)) (λ component other h. let l = least_event component other h in omega (arith, high, l));
          })

-- ---- after an instant, and after the step

pub never_first : (m n : ℕ) → m ≡ suc n → (m == 0) ≡ false
never_first m n is = grind (arith, nat_tests)

module _ (system : System) (plan : Plan) (table : Timetable) (t to : ℕ) (stands : StandsAt system t false table) (none : is_some_armed t (timers_in table) ≡ false)
    (starts : table.start ≡ plan.start) (stops : table.stop ≡ plan.stop) (before : t < plan.stop) (b : IsBound plan (timers_in table) table.events t to) (m : ℕ) (past : t < m) (within : m ≤ to) where
  up_to : (clock : ℕ) (state : ClockState) → slice_get table.clocks clock ≡ Some state → (point : ℕ) → t < point → TimerTicksAt table.start (timer_in state) point → m ≤ point
  up_to clock state is point later ticks =
      let least = b.least point later (AtTick (subst (λ (s : ℕ). SomeTicksAt s (timers_in table) point) starts (clock, timer_in state, timer_at table.clocks clock state is, ticks))) in
      omega (arith, least, within)

  next_by : (clock : ℕ) (state : ClockState) → slice_get table.clocks clock ≡ Some state → IsNextFrom table.start t false state → is_armed_for t (timer_in state) ≡ false → IsNextFrom table.start m true state
  next_by clock S.Unasked is next unarmed = tt
  next_by clock (S.Periodic interval shift ticks) is next unarmed = (
    up_to clock (S.Periodic interval shift ticks) is (table.start + shift + ticks * interval) next.0 (ticks, refl),
    λ k w. let made = next.1 k w in omega (arith, made, past),
  )
  next_by clock (S.Countdown None) is next unarmed = tt
  next_by clock (S.Countdown (Some armed)) is next unarmed =
      let later : t < armed = grind (arith, nat_tests) in up_to clock (S.Countdown (Some armed)) is armed later refl

  -- a step to at most its bound passes over no tick
  pub stands_after : StandsAt system m true table
  stands_after = record {
    len = stands.len;
    components = stands.components;
    places = stands.places;
    next = λ k d w.
        let is = slice_get-get_or table.clocks k d w in
        next_by k (get_or table.clocks k d) is (stands.next k d w) (none_armed_at t table.clocks none k (get_or table.clocks k d) is);
    within = let most : to ≤ plan.stop = b.least plan.stop before (OnStop refl) in omega (arith, most, stops, within);
  }

-- where other event times stand, the Clocks stand as before
pub stands_with : (system : System) (t : ℕ) (is_first : Bool) (old new : Timetable) → new ≡ with_events old new.events → length new.events ≡ length old.events → StandsAt system t is_first old → StandsAt system t is_first new
stands_with system t is_first old new same len stands = subst (StandsAt system t is_first) (sym same) (record {
  len = stands.len;
  components = len ∙ stands.components;
  places = stands.places;
  next = stands.next;
  within = stands.within;
})

-- ---- the schedule before a run, and the ticks of one that begins where the run does

pub first_again : (system : System) (table : Timetable) (start stop : ℕ) → table ≡ first_table system start stop → table ≡ first_table system table.start table.stop
first_again system table start stop is =
    is ∙ ap (λ (a : ℕ). first_table system a stop) (sym (ap (λ (x : Timetable). x.start) is)) ∙ ap (λ (b : ℕ). first_table system table.start b) (sym (ap (λ (x : Timetable). x.stop) is))

pub begins : (system : System) (plan : Plan) (table : Timetable) (t n : ℕ) (is_first : Bool) (values : List (Option ℤ)) → length values ≡ length system.ports → table.start ≡ plan.start → StandsAt system t is_first table → (n == 0) ≡ is_first →
    Begins system plan (record { t = t; n = n; values = values; timers = timers_in table; events = table.events }) (is_due_at table t)
begins system plan table t n is_first values known starts stands first = record {
  known = known;
  are_ticks = subst (λ (s : ℕ). AreTicks system s (timers_in table) t n (is_due_at table t)) starts (are_ticks system t is_first table stands n first);
}

-- the buffers at the end of a step to at most its bound
pub timed_after : (e : Experiment) (t n to m : ℕ) (b : Buffers) → IsPlan e.plan → AreTimed e t n false b → is_some_armed t (timers_in b.schedule) ≡ false → IsBoundOf e.plan (timers_in b.schedule) b.schedule.events t to → t < m → m ≤ to → AreTimed e m 0 true b
timed_after e t n to m b plan h none bound later within = record {
  know = h.know;
  awaited = h.awaited;
  starts = h.starts;
  stops = h.stops;
  stands = stands_after e.system e.plan b.schedule t to h.stands none h.starts h.stops bound.before_stop bound.bound m later within;
  places = h.places;
  fitting = h.fitting;
  holds = h.holds;
  limited = omega arith;
  few = let few = h.few in let limited = h.limited in let limit = plan.limit_within in omega (arith, few, limited, limit, later);
}
