-- A checkpoint may hold where a run stands.
use Rattle.std.proofs.Common.{◌≡◌, ℕ, suc, ◌-◌, ◌^◌, ◌<◌, ◌≤◌, nat_le, ℤ, pos, negsuc, Bool, true, false, List, [], ◌∷◌, Option, Some, None, inl, inr, refl, sym, ap, ◌∙◌, subst, arith, length, map}
use Rattle.std.specs.Prelude.{All, IfSome, IsSomeAnd, if◌then◌else◌}
use Rattle.std.specs.List.{slice_get}
use Rattle.std.specs.Option.{option_map}
use Rattle.std.proofs.lemmas.Bool.Decides.{nat_tests}
use Rattle.std.proofs.lemmas.Int.{ints}
use Rattle.std.proofs.lemmas.List.Elements.{All-head, All-tail}
use Rattle.value_types.specs.Values.{Fits, word_of}
use Rattle.value_types.specs.declared.values.PortType.{PortType}
use Rattle.value_types.specs.declared.values.PortType.TheVariants.{Int8, UInt8, Int16, UInt16, Int32, UInt32, Int64, UInt64, Boolean, Enumeration, Clock}
use Rattle.exact_parts.specs.Field.{AreBytes, InSpans}
use Rattle.system_model.specs.declared.system.Component.{Component}
use Rattle.system_model.specs.declared.system.Port.{Port}
use Rattle.system_model.specs.declared.system.Role.{Role}
use Rattle.system_model.specs.declared.system.Role.TheVariants.{Input, Output, ClockInput, ClockOutput, TimeClock}
use Rattle.system_model.specs.declared.system.Timing.TheVariants.{Periodic, Answered, Countdown, Changing}
use Rattle.system_checkpoint.specs.declared.snapshot.Arming.TheVariants as A
use Rattle.system_checkpoint.specs.declared.snapshot.ClockTimes.{ClockTimes}
use Rattle.system_checkpoint.specs.declared.snapshot.Snapshot.{Snapshot}
use Rattle.system_checkpoint.specs.Parts.{words}
use Rattle.system_checkpoint.specs.Spelling.{AllBy, AreTimes, CanBeHeld, HasArming, HasEvent, HasTimes, IsArming, IsState, IsWord}
use Rattle.system_checkpoint.specs.Whole.{is_asked, may_be_armed}
use Rattle.run_rest.specs.Snapshot.{time_up_to}
use Rattle.tick_schedule.specs.declared.clock.ClockState.{ClockState}
use Rattle.tick_schedule.specs.declared.clock.ClockState.TheVariants as S
use Rattle.tick_schedule.specs.Timetable.{IsToTick}
use Rattle.event_iteration.specs.Clocks.{IsPlaceOf, timer_in, timers_in}
use Rattle.event_iteration.specs.Updates.{AreLater}
use Rattle.calling_sequence.specs.declared.buffers.Buffers.{Buffers}
use Rattle.calling_sequence.specs.declared.experiment.Experiment.{Experiment}
use Rattle.calling_sequence.specs.StageOutcomes.{spot}
use Rattle.calling_sequence.specs.Holding.{AreOfRoles, FitPorts, arming_of, armed_up_to, by_port, kept_at, times_of}
use Rattle.calling_sequence.specs.Ready.{HaveModes, IsDone, MayBeRun}
use Rattle.calling_sequence.proofs.ScheduleSteps.{none_up_to}

-- ---- words

word_in : (kind : PortType) (value : ℤ) → Fits kind value → InSpans (words kind) (word_of value)
word_in Int8 (pos n) h = inl (record { from = omega arith; up_to = omega (arith, ints, h.1) })
word_in Int8 (negsuc n) h = inr (record { from = omega (arith, ints, h.0); up_to = omega arith })
word_in UInt8 (pos n) h = inl (record { from = omega arith; up_to = omega (arith, ints, h.1) })
word_in UInt8 (negsuc n) h = absurd (omega (arith, ints, h.0))
word_in Int16 (pos n) h = inl (record { from = omega arith; up_to = omega (arith, ints, h.1) })
word_in Int16 (negsuc n) h = inr (record { from = omega (arith, ints, h.0); up_to = omega arith })
word_in UInt16 (pos n) h = inl (record { from = omega arith; up_to = omega (arith, ints, h.1) })
word_in UInt16 (negsuc n) h = absurd (omega (arith, ints, h.0))
word_in Int32 (pos n) h = inl (record { from = omega arith; up_to = omega (arith, ints, h.1) })
word_in Int32 (negsuc n) h = inr (record { from = omega (arith, ints, h.0); up_to = omega arith })
word_in UInt32 (pos n) h = inl (record { from = omega arith; up_to = omega (arith, ints, h.1) })
word_in UInt32 (negsuc n) h = absurd (omega (arith, ints, h.0))
word_in Int64 (pos n) h = inl (record { from = omega arith; up_to = omega (arith, ints, h.1) })
word_in Int64 (negsuc n) h = inl (record { from = omega arith; up_to = omega arith })
word_in UInt64 (pos n) h = inl (record { from = omega arith; up_to = omega (arith, ints, h.1) })
word_in UInt64 (negsuc n) h = absurd (omega (arith, ints, h.0))
word_in Boolean (pos n) h = inl (record { from = omega arith; up_to = omega (arith, ints, h.1) })
word_in Boolean (negsuc n) h = absurd (omega (arith, ints, h.0))
word_in Enumeration (pos n) h = inl (record { from = omega arith; up_to = omega (arith, ints, h.1) })
word_in Enumeration (negsuc n) h = inl (record { from = omega arith; up_to = omega arith })
word_in Clock (pos n) h = inl (record { from = omega arith; up_to = omega (arith, ints, h.1) })
word_in Clock (negsuc n) h = absurd (omega (arith, ints, h.0))

word_held : (port : Port) (value : Option ℤ) → IfSome value (Fits port.kind) → IsWord port (option_map word_of value)
word_held port None h = tt
word_held port (Some value) h = word_in port.kind value h

words_held : (ports : List Port) (values : List (Option ℤ)) → length values ≡ length ports → FitPorts ports values → AllBy IsWord ports (map (option_map word_of) values)
words_held [] [] len fit = tt
words_held [] (v ∷ values) len fit = absurd (omega (arith, len))
words_held (port ∷ ports) [] len fit = absurd (omega (arith, len))
words_held (port ∷ ports) (v ∷ values) len fit = (word_held port v (fit 0 port refl), words_held ports values (omega (arith, len)) (λ p q is. fit (suc p) q is))

-- ---- states

states_held : (cs : List Component) (states : List (List ℕ)) → length states ≡ length cs → All (λ (state : List ℕ). length state ≤ 2 ^ 20) states → All AreBytes states → AllBy IsState cs states
states_held [] [] len few bytes = tt
states_held [] (s ∷ states) len few bytes = absurd (omega (arith, len))
states_held (c ∷ cs) [] len few bytes = absurd (omega (arith, len))
states_held (c ∷ cs) (s ∷ states) len few bytes = (
  record { size = All-head (λ (state : List ℕ). length state ≤ 2 ^ 20) s states few; are_bytes = All-head AreBytes s states bytes },
  states_held cs states (omega (arith, len)) (All-tail (λ (state : List ℕ). length state ≤ 2 ^ 20) s states few) (All-tail AreBytes s states bytes),
)

-- ---- Clocks

roles_tail : (port : Port) (ports : List Port) (state : ClockState) (states : List ClockState) → AreOfRoles (port ∷ ports) (state ∷ states) → AreOfRoles ports states
roles_tail port ports state states roles = λ p q s a b. roles (suc p) q s a b

times_kept : (role : Role) (state : ClockState) → IsPlaceOf role state → IfSome (times_of role (timer_in state)) AreTimes → HasTimes (is_asked role) (times_of role (timer_in state))
times_kept (TimeClock (Periodic interval shift)) state of h = refl
times_kept (TimeClock Answered) state (interval, shift, ticks, is, above) h =
    subst (λ (s : ClockState). HasTimes true (times_of (TimeClock Answered) (timer_in s))) (sym is) (subst (λ (s : ClockState). IfSome (times_of (TimeClock Answered) (timer_in s)) AreTimes) is h)
times_kept (TimeClock Countdown) state of h = refl
times_kept (TimeClock Changing) state of h = refl
times_kept (Input feed) state of h = refl
times_kept Output state of h = refl
times_kept (ClockInput feed) state of h = refl
times_kept ClockOutput state of h = refl

abbrev HaveBounds : Option ClockTimes → Type 0
HaveBounds times = IfSome times AreTimes

times_held : (ports : List Port) (states : List ClockState) → length states ≡ length ports → AreOfRoles ports states → All (λ (times : Option ClockTimes). IfSome times AreTimes) (by_port times_of ports (map timer_in states)) →
    AllBy (λ (port : Port). HasTimes (is_asked port.role)) ports (by_port times_of ports (map timer_in states))
times_held [] [] len roles all = tt
times_held [] (s ∷ states) len roles all = tt
times_held (port ∷ ports) [] len roles all = absurd (omega (arith, len))
times_held (port ∷ ports) (s ∷ states) len roles all = (
  times_kept port.role s (roles 0 port s refl refl) (All-head HaveBounds (times_of port.role (timer_in s)) (by_port times_of ports (map timer_in states)) all),
  times_held ports states (omega (arith, len)) (roles_tail port ports s states roles) (All-tail HaveBounds (times_of port.role (timer_in s)) (by_port times_of ports (map timer_in states)) all),
)

module _ (held : Snapshot) where
  -- a point up to the stop is after the one where the run is held
  abbrev ComesLater : ClockState → Type 0
  ComesLater state = (point : ℕ) → state ≡ S.Countdown (Some point) → point ≤ held.plan.stop → held.point < point

  armed_kept : (armed : Option ℕ) → ComesLater (S.Countdown armed) → IsArming held (armed_up_to held.plan.stop (timer_in (S.Countdown armed)))
  armed_kept None later = tt
  armed_kept (Some point) later = by (nat_le point held.plan.stop) refl where
    by : (b : Bool) → nat_le point held.plan.stop ≡ b → IsArming held (if b then A.At point else A.Unarmed)
    by true is = let within = up_to point held.plan.stop is in (later point refl within, within) where
      up_to : (a c : ℕ) → nat_le a c ≡ true → a ≤ c
      up_to a c q = grind (arith, nat_tests)
    by false is = tt

  arming_kept : (role : Role) (state : ClockState) → IsPlaceOf role state → ComesLater state → HasArming held (may_be_armed role) (arming_of held.plan.stop role (timer_in state))
  arming_kept (TimeClock (Periodic interval shift)) state of later = refl
  arming_kept (TimeClock Answered) state of later = refl
  arming_kept (TimeClock Countdown) state (armed, is) later =
      subst (λ (s : ClockState). HasArming held true (arming_of held.plan.stop (TimeClock Countdown) (timer_in s))) (sym is) (armed_kept armed (subst ComesLater is later))
  arming_kept (TimeClock Changing) state (armed, is) later =
      subst (λ (s : ClockState). HasArming held true (arming_of held.plan.stop (TimeClock Changing) (timer_in s))) (sym is) (armed_kept armed (subst ComesLater is later))
  arming_kept (Input feed) state of later = refl
  arming_kept Output state of later = refl
  arming_kept (ClockInput feed) state of later = refl
  arming_kept ClockOutput state of later = refl

  armings_held : (ports : List Port) (states : List ClockState) → length states ≡ length ports → AreOfRoles ports states → ((i : ℕ) (state : ClockState) → slice_get states i ≡ Some state → ComesLater state) →
      AllBy (λ (port : Port). HasArming held (may_be_armed port.role)) ports (by_port (arming_of held.plan.stop) ports (map timer_in states))
  armings_held [] [] len roles later = tt
  armings_held [] (s ∷ states) len roles later = tt
  armings_held (port ∷ ports) [] len roles later = absurd (omega (arith, len))
  armings_held (port ∷ ports) (s ∷ states) len roles later =
      (arming_kept port.role s (roles 0 port s refl refl) (later 0 s refl), armings_held ports states (omega (arith, len)) (roles_tail port ports s states roles) (λ i state is. later (suc i) state is))

  -- ---- event times

  event_held : (c : Component) (event : Option ℕ) → (c.shape.has_event_mode ≡ false → event ≡ None) → IfSome event (λ time. held.point < time) → HasEvent held c (time_up_to held.plan.stop event)
  event_held c None mode later = tt
  event_held c (Some time) mode later = by (nat_le time held.plan.stop) refl where
    has : (b : Bool) → c.shape.has_event_mode ≡ b → 1 ≤ (if b then 1 else 0)
    has true is = omega arith
    has false is = absurd (let wrong = mode is in cc)

    by : (b : Bool) → nat_le time held.plan.stop ≡ b → HasEvent held c (if b then Some time else None)
    by true is = let within = up_to time held.plan.stop is in ((later, within), has c.shape.has_event_mode refl) where
      up_to : (a d : ℕ) → nat_le a d ≡ true → a ≤ d
      up_to a d q = grind (arith, nat_tests)
    by false is = tt

  events_held : (cs : List Component) (events : List (Option ℕ)) → HaveModes (map (λ (c : Component). c.shape) cs) events → AreLater held.point events → AllBy (HasEvent held) cs (map (time_up_to held.plan.stop) events)
  events_held [] [] modes later = tt
  events_held [] (e ∷ events) modes later = modes
  events_held (c ∷ cs) [] modes later = modes
  events_held (c ∷ cs) (e ∷ events) modes later = (
    event_held c e modes.0 (All-head (λ (x : Option ℕ). IfSome x (λ time. held.point < time)) e events later),
    events_held cs events modes.1 (All-tail (λ (x : Option ℕ). IfSome x (λ time. held.point < time)) e events later),
  )

-- ---- all of it

module _ (e : Experiment) (t n : ℕ) (b : Buffers) (may : MayBeRun e) (resolution : (1 ≤ e.plan.resolution) × (e.plan.resolution ≤ 2 ^ 62)) (begun : e.plan.start ≤ t) (early : t < e.plan.stop) (done : IsDone e t n b)
    (bounds : All (λ (times : Option ClockTimes). IfSome times AreTimes) (by_port times_of e.system.ports (timers_in b.schedule))) where
  pub can_be_held : (states : List (List ℕ)) → length states ≡ length e.system.components → All (λ (state : List ℕ). length state ≤ 2 ^ 20) states → All AreBytes states → CanBeHeld e.system (kept_at e (spot t 0 b) states)
  can_be_held states len few bytes =
      let plan = may.plan in
      let above = plan.step_above in
      let limit = plan.limit_above in
      let stands = done.timed.stands in
      let held = kept_at e (spot t 0 b) states in
      record {
        limits = record {
          resolution = resolution;
          step = (omega (arith, above), plan.step_within);
          limit = (omega (arith, limit), plan.limit_within);
          from = begun;
          before = early;
          near = plan.stop_within;
          workers = refl;
          link = refl;
        };
        states = states_held e.system.components states len few bytes;
        words = words_held e.system.ports b.values done.timed.places done.timed.fitting;
        times = times_held e.system.ports b.schedule.clocks stands.len stands.places bounds;
        armings = armings_held held e.system.ports b.schedule.clocks stands.len stands.places
            (λ i state is point armed within.
            none_up_to b.schedule t stands.next done.unarmed i point
            (let stop = done.timed.stops in omega (arith, stop, within), subst (λ (o : Option ClockState). IsSomeAnd o (λ s. IsToTick b.schedule.start s point)) (sym (is ∙ ap Some armed)) refl));
        events = events_held held e.system.components b.schedule.events done.modes done.later;
      }
