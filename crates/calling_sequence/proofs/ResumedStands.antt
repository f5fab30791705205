-- The buffers of a run that is resumed stand at the point where it was held.
use Rattle.std.proofs.Common.{◌≡◌, ℕ, suc, zero, ◌+◌, ◌-◌, ◌*◌, ◌/◌, ◌<◌, ◌≤◌, nat_lt, ℤ, Bool, true, false, List, [], ◌∷◌, Option, Some, None, refl, sym, ap, ap₂, ◌∙◌, subst, arith, length, map}
use Rattle.std.specs.Prelude.{All, IfSome, ◌==◌, ◌&&◌, ◌||◌, if◌then◌else◌, int_le, ◌≤ℤ◌}
use Rattle.std.specs.List.{slice_get}
use Rattle.std.proofs.lemmas.Bool.Decides.{nat_tests}
use Rattle.std.proofs.lemmas.Int.{ints}
use Rattle.std.proofs.lemmas.List.Elements.{All-cons, All-head, All-nil, All-tail}
use Rattle.std.proofs.Math.Nat.{div-mul-le_self, lt-mul-div-succ, mul-le-mul_right, mul_comm}
use Rattle.value_types.specs.Values.{Fits, greatest_of, is_fitting, least_of, number_of}
use Rattle.value_types.specs.declared.values.PortType.{PortType}
use Rattle.system_model.specs.declared.system.Component.{Component}
use Rattle.system_model.specs.declared.system.Port.{Port}
use Rattle.system_model.specs.declared.system.Role.{Role}
use Rattle.system_model.specs.declared.system.Role.TheVariants.{Input, Output, ClockInput, ClockOutput, TimeClock}
use Rattle.system_model.specs.declared.system.Timing.TheVariants.{Periodic, Answered, Countdown, Changing}
use Rattle.system_checkpoint.specs.declared.snapshot.Arming.{Arming}
use Rattle.system_checkpoint.specs.declared.snapshot.Arming.TheVariants as A
use Rattle.system_checkpoint.specs.declared.snapshot.ClockTimes.{ClockTimes}
use Rattle.system_checkpoint.specs.declared.snapshot.Snapshot.{Snapshot}
use Rattle.system_checkpoint.specs.Spelling.{AllBy, CanBeHeld, HasArming, HasEvent, HasTimes, IsWord}
use Rattle.system_checkpoint.specs.Whole.{is_asked, may_be_armed}
use Rattle.system_model.specs.Sound.{IsSound}
use Rattle.trace_text.specs.Room.{HoldsEach}
use Rattle.slot_calls.specs.Stage.{shapes_of}
use Rattle.tick_schedule.specs.declared.clock.ClockState.{ClockState}
use Rattle.tick_schedule.specs.declared.clock.ClockState.TheVariants as S
use Rattle.tick_schedule.specs.Timetable.{IsSoundClock, Timetable, resumed_state, ticks_up_to}
use Rattle.event_iteration.specs.Clocks.{IsNextFrom, IsPlaceOf, StandsAt, timer_in, timers_in}
use Rattle.event_iteration.specs.Intervals.{is_some_armed}
use Rattle.event_iteration.specs.Updates.{AreLater}
use Rattle.run_model.specs.Run.{Timer}
use Rattle.run_model.specs.Timers.{is_armed_for}
use Rattle.system_model.specs.Values.{value}
use Rattle.calling_sequence.specs.Holding.{AreOfRoles, FitPorts, armed_as, armed_by, clock_by, clocks_by, resumed_table, timer_by, timers_by, value_by, values_by}
use Rattle.calling_sequence.specs.declared.buffers.Buffers.{Buffers}
use Rattle.calling_sequence.specs.declared.experiment.Experiment.{Experiment}
use Rattle.calling_sequence.specs.Course.{Spot}
use Rattle.calling_sequence.specs.Ready.{AreResumed, HaveModes, IsPlanOf, KnowParticipants}
use Rattle.event_iteration.specs.Participants.{AreUnfedAwaited}
use Rattle.calling_sequence.proofs.Resumed.{by_len, clocks_sound, each_len}

-- ---- ticks

-- a periodic Clock stands before its first tick above the point
next_tick : (start shift interval t : ℕ) → 0 < interval → IsNextFrom start t false (S.Periodic interval shift (ticks_up_to start shift interval t))
next_tick start shift interval t above = by (nat_lt t (start + shift)) refl where
  down : (a b : ℕ) → a / b * b ≤ a
  down a b = div-mul-le_self a b

  times_le : (a b c : ℕ) → a ≤ b → a * c ≤ b * c
  times_le a b c h = mul-le-mul_right c h

  low : (a b : ℕ) → nat_lt a b ≡ true → a < b
  low a b h = grind (arith, nat_tests)

  high : (a b : ℕ) → nat_lt a b ≡ false → b ≤ a
  high a b h = grind (arith, nat_tests)

  by : (b : Bool) → nat_lt t (start + shift) ≡ b → IsNextFrom start t false (S.Periodic interval shift (if b then 0 else (t - (start + shift)) / interval + 1))
  by true is = let before = low t (start + shift) is in (omega (arith, before), λ k below. absurd (omega (arith, below)))
  by false is =
      let from = high t (start + shift) is in
      let d = t - (start + shift) in
      let q = d / interval in
      let over : d < interval * (q + 1) = lt-mul-div-succ d above in
      let under : q * interval ≤ d = down d interval in
      let grown : interval * (q + 1) ≡ (q + 1) * interval = mul_comm interval (q + 1) in
      (omega (arith, from, over, grown), λ k below. let less = times_le k q interval (omega (arith, below)) in omega (arith, from, under, less))

-- ---- one port

module _ (held : Snapshot) (start : ℕ) where
  abbrev state_of : Role → Option ClockTimes → Arming → ClockState
  state_of role times arming = armed_as arming (resumed_state start held.point (clock_by role times))

  abbrev IsKept : Role → Option ClockTimes → Arming → Type 0
  IsKept role times arming = HasTimes (is_asked role) times × HasArming held (may_be_armed role) arming

  -- what it is, by its role
  record Stands (role : Role) (times : Option ClockTimes) (arming : Arming) : Type 0 where
    timer : timer_in (state_of role times arming) ≡ timer_by role times arming
    place : IsPlaceOf role (state_of role times arming)
    next : IsNextFrom start held.point false (state_of role times arming)
    unarmed : is_armed_for held.point (timer_in (state_of role times arming)) ≡ false

  apart : (a b : ℕ) → b < a → (a == b) ≡ false
  apart a b h = grind (arith, nat_tests)

  stands_of : (role : Role) (times : Option ClockTimes) (arming : Arming) → IsKept role times arming → IsSoundClock (clock_by role times) → Stands role times arming
  stands_of (TimeClock (Periodic interval shift)) None A.NoClock kept sound =
      record { timer = refl; place = (ticks_up_to start shift interval held.point, refl); next = next_tick start shift interval held.point sound.interval.0; unarmed = refl }
  stands_of (TimeClock (Periodic interval shift)) None A.Unarmed kept sound = absurd (let none : A.Unarmed ≡ A.NoClock = kept.1 in cc)
  stands_of (TimeClock (Periodic interval shift)) None (A.At point) kept sound = absurd (let none : A.At point ≡ A.NoClock = kept.1 in cc)
  stands_of (TimeClock (Periodic interval shift)) (Some times) arming kept sound = absurd (let none : Some times ≡ None = kept.0 in cc)
  stands_of (TimeClock Answered) None arming kept sound = absurd (kept.0)
  stands_of (TimeClock Answered) (Some times) A.NoClock kept sound = record {
    timer = refl;
    place = (times.interval, times.shift, ticks_up_to start times.shift times.interval held.point, refl, sound.interval.0);
    next = next_tick start times.shift times.interval held.point sound.interval.0;
    unarmed = refl;
  }
  stands_of (TimeClock Answered) (Some times) A.Unarmed kept sound = absurd (let none : A.Unarmed ≡ A.NoClock = kept.1 in cc)
  stands_of (TimeClock Answered) (Some times) (A.At point) kept sound = absurd (let none : A.At point ≡ A.NoClock = kept.1 in cc)
  stands_of (TimeClock Countdown) (Some times) arming kept sound = absurd (let none : Some times ≡ None = kept.0 in cc)
  stands_of (TimeClock Countdown) None A.NoClock kept sound = absurd (kept.1)
  stands_of (TimeClock Countdown) None A.Unarmed kept sound = record { timer = refl; place = (None, refl); next = tt; unarmed = refl }
  stands_of (TimeClock Countdown) None (A.At point) kept sound = let later = kept.1.0 in record { timer = refl; place = (Some point, refl); next = omega (arith, later); unarmed = apart point held.point later }
  stands_of (TimeClock Changing) (Some times) arming kept sound = absurd (let none : Some times ≡ None = kept.0 in cc)
  stands_of (TimeClock Changing) None A.NoClock kept sound = absurd (kept.1)
  stands_of (TimeClock Changing) None A.Unarmed kept sound = record { timer = refl; place = (None, refl); next = tt; unarmed = refl }
  stands_of (TimeClock Changing) None (A.At point) kept sound = let later = kept.1.0 in record { timer = refl; place = (Some point, refl); next = omega (arith, later); unarmed = apart point held.point later }
  stands_of (Input feed) (Some times) arming kept sound = absurd (let none : Some times ≡ None = kept.0 in cc)
  stands_of (Input feed) None A.NoClock kept sound = record { timer = refl; place = refl; next = tt; unarmed = refl }
  stands_of (Input feed) None A.Unarmed kept sound = absurd (let none : A.Unarmed ≡ A.NoClock = kept.1 in cc)
  stands_of (Input feed) None (A.At point) kept sound = absurd (let none : A.At point ≡ A.NoClock = kept.1 in cc)
  stands_of Output (Some times) arming kept sound = absurd (let none : Some times ≡ None = kept.0 in cc)
  stands_of Output None A.NoClock kept sound = record { timer = refl; place = refl; next = tt; unarmed = refl }
  stands_of Output None A.Unarmed kept sound = absurd (let none : A.Unarmed ≡ A.NoClock = kept.1 in cc)
  stands_of Output None (A.At point) kept sound = absurd (let none : A.At point ≡ A.NoClock = kept.1 in cc)
  stands_of (ClockInput feed) (Some times) arming kept sound = absurd (let none : Some times ≡ None = kept.0 in cc)
  stands_of (ClockInput feed) None A.NoClock kept sound = record { timer = refl; place = refl; next = tt; unarmed = refl }
  stands_of (ClockInput feed) None A.Unarmed kept sound = absurd (let none : A.Unarmed ≡ A.NoClock = kept.1 in cc)
  stands_of (ClockInput feed) None (A.At point) kept sound = absurd (let none : A.At point ≡ A.NoClock = kept.1 in cc)
  stands_of ClockOutput (Some times) arming kept sound = absurd (let none : Some times ≡ None = kept.0 in cc)
  stands_of ClockOutput None A.NoClock kept sound = record { timer = refl; place = refl; next = tt; unarmed = refl }
  stands_of ClockOutput None A.Unarmed kept sound = absurd (let none : A.Unarmed ≡ A.NoClock = kept.1 in cc)
  stands_of ClockOutput None (A.At point) kept sound = absurd (let none : A.At point ≡ A.NoClock = kept.1 in cc)

  -- ---- all of them

  abbrev states_of : List Port → List (Option ClockTimes) → List Arming → List ClockState
  states_of ports times armings = armed_by armings (map (resumed_state start held.point) (clocks_by ports times))

  pub record StandAll (ports : List Port) (times : List (Option ClockTimes)) (armings : List Arming) : Type 0 where
    pub len : length (states_of ports times armings) ≡ length ports
    pub timers : map timer_in (states_of ports times armings) ≡ timers_by ports times armings
    pub places : AreOfRoles ports (states_of ports times armings)
    pub next : All (IsNextFrom start held.point false) (states_of ports times armings)
    pub unarmed : is_some_armed held.point (map timer_in (states_of ports times armings)) ≡ false

  all_of : (port : Port) (ports : List Port) (y : Option ClockTimes) (times : List (Option ClockTimes)) (x : Arming) (armings : List Arming) → Stands port.role y x → StandAll ports times armings → StandAll (port ∷ ports) (y ∷ times) (x ∷ armings)
  all_of port ports y times x armings own rest = record {
    len = ap suc rest.len;
    timers = ap₂ (λ (t : Timer) (ts : List Timer). t ∷ ts) own.timer rest.timers;
    places = places;
    next = All-cons (IsNextFrom start held.point false) (state_of port.role y x) (states_of ports times armings) own.next rest.next;
    unarmed = ap (λ (b : Bool). b || is_some_armed held.point (map timer_in (states_of ports times armings))) own.unarmed ∙ rest.unarmed;
  } where
    places : AreOfRoles (port ∷ ports) (states_of (port ∷ ports) (y ∷ times) (x ∷ armings))
    places zero q s a b = let same_port : port ≡ q = cc in let same : state_of port.role y x ≡ s = cc in subst (λ (r : Port). IsPlaceOf r.role s) same_port (subst (λ (z : ClockState). IsPlaceOf port.role z) same own.place)
    places (suc p) q s a b = rest.places p q s a b

  pub stand_all : (ports : List Port) (times : List (Option ClockTimes)) (armings : List Arming) → AllBy (λ (port : Port). HasTimes (is_asked port.role)) ports times → AllBy (λ (port : Port). HasArming held (may_be_armed port.role)) ports armings → All IsSoundClock (clocks_by ports times) →
      StandAll ports times armings
  stand_all [] [] [] a b sound = record { len = refl; timers = refl; places = λ p q s c d. absurd (cc); next = All-nil (IsNextFrom start held.point false); unarmed = refl }
  stand_all [] [] (x ∷ armings) a b sound = absurd b
  stand_all [] (y ∷ times) armings a b sound = absurd a
  stand_all (port ∷ ports) [] armings a b sound = absurd a
  stand_all (port ∷ ports) (y ∷ times) [] a b sound = absurd b
  stand_all (port ∷ ports) (y ∷ times) (x ∷ armings) a b sound =
      all_of port ports y times x armings (stands_of port.role y x (a.0, b.0) (All-head IsSoundClock (clock_by port.role y) (clocks_by ports times) sound))
      (stand_all ports times armings a.1 b.1 (All-tail IsSoundClock (clock_by port.role y) (clocks_by ports times) sound))

  -- ---- event times

  pub have_modes : (cs : List Component) (events : List (Option ℕ)) → AllBy (HasEvent held) cs events → HaveModes (map (λ (c : Component). c.shape) cs) events
  have_modes [] [] all = tt
  have_modes [] (e ∷ events) all = all
  have_modes (c ∷ cs) [] all = all
  have_modes (c ∷ cs) (e ∷ events) all = (none c e all.0, have_modes cs events all.1) where
    none : (d : Component) (event : Option ℕ) → HasEvent held d event → d.shape.has_event_mode ≡ false → event ≡ None
    none d None has mode = refl
    none d (Some time) has mode = absurd (let one : 1 ≤ 0 = subst (λ (b : Bool). 1 ≤ (if b then 1 else 0)) mode has.1 in omega (arith, one))

  pub are_later : (cs : List Component) (events : List (Option ℕ)) → AllBy (HasEvent held) cs events → AreLater held.point events
  are_later [] [] all = All-nil (λ (e : Option ℕ). IfSome e (λ time. held.point < time))
  are_later [] (e ∷ events) all = absurd all
  are_later (c ∷ cs) [] all = absurd all
  are_later (c ∷ cs) (e ∷ events) all = All-cons (λ (x : Option ℕ). IfSome x (λ time. held.point < time)) e events (later e all.0) (are_later cs events all.1) where
    later : (event : Option ℕ) → HasEvent held c event → IfSome event (λ time. held.point < time)
    later None has = tt
    later (Some time) has = has.0.0

-- ---- values

fits_by : (kind : PortType) (word : Option ℕ) → IfSome (value_by kind word) (Fits kind)
fits_by kind None = tt
fits_by kind (Some word) = by (is_fitting kind (number_of kind word)) refl where
  within : (low z high : ℤ) → (int_le low z && int_le z high) ≡ true → (low ≤ℤ z) × (z ≤ℤ high)
  within low z high h = (grind (arith, ints), grind (arith, ints))

  by : (b : Bool) → is_fitting kind (number_of kind word) ≡ b → IfSome (if b then Some (number_of kind word) else None) (Fits kind)
  by true is = within (least_of kind) (number_of kind word) (greatest_of kind) is
  by false is = tt

pub values_fit : (ports : List Port) (words : List (Option ℕ)) → length words ≡ length ports → FitPorts ports (values_by ports words)
values_fit [] words len = λ p port at. absurd (cc)
values_fit (q ∷ ports) [] len = absurd (omega (arith, len))
values_fit (q ∷ ports) (w ∷ words) len = λ p port at. by p port at (values_fit ports words (omega (arith, len))) where
  by : (p : ℕ) (port : Port) → slice_get (q ∷ ports) p ≡ Some port → FitPorts ports (values_by ports words) → IfSome (value (values_by (q ∷ ports) (w ∷ words)) p) (Fits port.kind)
  by zero port at rest = let same : q ≡ port = cc in subst (λ (r : Port). IfSome (value_by q.kind w) (Fits r.kind)) same (fits_by q.kind w)
  by (suc p) port at rest = rest p port at

-- ---- the buffers

pub resumed : (e : Experiment) (held : Snapshot) (b : Buffers) → IsSound e.system → CanBeHeld e.system held → IsPlanOf e.plan held → KnowParticipants e.system b → AreUnfedAwaited e.system b.values b.pending → b.values ≡ values_by e.system.ports held.words → b.schedule ≡ resumed_table e.system e.plan held → HoldsEach e.system (length b.text.items) → b.instants ≡ 0 → AreResumed e held b
resumed e held b sound can plan know awaited values schedule holds none =
    let ports = e.system.ports in
    let s : StandAll held e.plan.start ports held.times held.armings = stand_all held e.plan.start ports held.times held.armings can.times can.armings (clocks_sound e.system held.times sound can.times) in
    let words = by_len IsWord ports held.words can.words in
    let table = resumed_table e.system e.plan held in
    let before = can.limits.before in
    let stop = plan.stop in
    let zero_is = none in
    record {
      spot_is = ap₂ (λ (vs : List (Option ℤ)) (t : Timetable). spot_of held.point vs t) values schedule ∙ ap (λ (ts : List Timer). spot_with held ports ts) s.timers;
      done = record {
        timed = record {
          know = know;
          awaited = awaited;
          starts = ap (λ (t : Timetable). t.start) schedule;
          stops = ap (λ (t : Timetable). t.stop) schedule;
          stands = subst (λ (t : Timetable). StandsAt e.system held.point false t) (sym schedule) (record {
            len = s.len;
            components = by_len (HasEvent held) e.system.components held.events can.events;
            places = s.places;
            next = s.next;
            within = omega (arith, before, stop);
          });
          places = ap length values ∙ each_len (λ (port : Port). value_by port.kind) ports held.words words;
          fitting = subst (λ (vs : List (Option ℤ)). FitPorts ports vs) (sym values) (values_fit ports held.words words);
          holds = holds;
          limited = omega arith;
          few = omega (arith, zero_is);
        };
        modes = subst (λ (t : Timetable). HaveModes (shapes_of e.system) t.events) (sym schedule) (have_modes held e.plan.start e.system.components held.events can.events);
        unarmed = ap (λ (t : Timetable). is_some_armed held.point (timers_in t)) schedule ∙ s.unarmed;
        later = subst (λ (t : Timetable). AreLater held.point t.events) (sym schedule) (are_later held e.plan.start e.system.components held.events can.events);
      };
      none = none;
    } where
      spot_of : ℕ → List (Option ℤ) → Timetable → Spot
      spot_of point values table = record { t = point; n = 0; values = values; timers = timers_in table; events = table.events }

      spot_with : Snapshot → List Port → List Timer → Spot
      spot_with held ports timers = record { t = held.point; n = 0; values = values_by ports held.words; timers = timers; events = held.events }
