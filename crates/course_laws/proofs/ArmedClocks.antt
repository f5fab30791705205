-- Where a Clock is armed for the point of an instant after it, it was armed in that instant: its FMU answered a new interval of no length (FMI 3.0, 2.2.9: countdown Clocks; a changing Clock has an interval of at least one count).
use Rattle.std.proofs.Common.{◌≡◌, ◌⊎◌, inl, inr, ℕ, zero, suc, ◌+◌, ◌*◌, ◌/◌, ◌%◌, ◌<◌, ◌==◌, ℤ, Bool, true, false, List, [], ◌∷◌, Option, Some, None, Ok, Result, refl, sym, ap, ◌∙◌, subst, arith}
use Rattle.std.specs.Prelude.{◌&&◌, ◌||◌, ◌≤◌, if◌then◌else◌, nat_le}
use Rattle.std.specs.List.{list_any, slice_get}
use Rattle.std.specs.Option.{option_and_then, option_map_or}
use Rattle.std.proofs.Math.Nat.{div-add-mod}
use Rattle.std.proofs.lemmas.Bool.{or_left, or_right}
use Rattle.std.proofs.lemmas.Bool.Decides.{nat_tests}
use Rattle.std.proofs.lemmas.List.Folds.{list_any-append}
use Rattle.std.proofs.lemmas.Option.{get_or_from_slice_get, same_Some, slice_get_within}
use Rattle.clock_fraction.specs.Counts.{counts_of}
use Rattle.clock_fraction.specs.declared.fraction.Fraction.{Fraction}
use Rattle.fmi_calls.specs.declared.call.Call.{Call}
use Rattle.fmi_calls.specs.declared.call.Call.TheVariants as C
use Rattle.fmi_calls.specs.declared.call.Content.TheVariants as A
use Rattle.fmi_calls.specs.declared.call.Interval.{Interval}
use Rattle.fmi_calls.specs.declared.call.Interval.TheVariants.{NotYetKnown, Unchanged, Changed}
use Rattle.fmi_calls.specs.declared.call.Reply.{Reply}
use Rattle.fmi_calls.specs.declared.call.Reply.TheVariants as R
use Rattle.fmi_calls.specs.Worth.{has_counts, is_known_interval}
use Rattle.fmu_peer.specs.declared.peer.Exchange.{Exchange}
use Rattle.fmu_peer.specs.declared.peer.PeerFault.{PeerFault}
use Rattle.fmu_peer.specs.Updates.{is_instant_interval}
use Rattle.system_model.specs.declared.system.Component.{Component}
use Rattle.system_model.specs.declared.system.Port.{Port}
use Rattle.system_model.specs.declared.system.Role.{Role}
use Rattle.system_model.specs.declared.system.Role.TheVariants.{TimeClock}
use Rattle.system_model.specs.declared.system.System.{System}
use Rattle.system_model.specs.declared.system.Timing.{Timing}
use Rattle.system_model.specs.declared.system.Timing.TheVariants.{Answered, Changing, Countdown}
use Rattle.system_model.specs.Ports.{is_clock_role, port_numbers}
use Rattle.system_model.specs.Sound.{IsSound}
use Rattle.system_model.proofs.CallerLemmas.{Placed, events_of, place_of}
use Rattle.run_model.specs.Equations.{timer_of}
use Rattle.run_model.specs.Initial.{interval_in}
use Rattle.run_model.specs.Run.{Every, Never, Once, Timer}
use Rattle.system_model.specs.Values.{value, is_active}
use Rattle.run_model.specs.Timers.{IsDue, answered, armed_after, fixed, periodic_of, rearmed}
use Rattle.slot_calls.specs.Carried.{reply_in}
use Rattle.slot_calls.specs.Log.{Sent, part}
use Rattle.slot_calls.proofs.CallerLemmas.{part_append, part_own}
use Rattle.event_iteration.specs.Clocks.{AreTicks}
use Rattle.event_iteration.specs.Explains.{Explains, all_said, call_at, said}
use Rattle.event_iteration.specs.Instants.{in_instant, takes_in_instant, tick_value}
use Rattle.event_iteration.specs.Intervals.{Rearms, asks_interval, first_told, first_told_by, first_told_in, interval_by, intervals, is_some_armed, log_after, shift_by, timer_after, timers_after_from}
use Rattle.event_iteration.specs.Settings.{port_order}
use Rattle.event_iteration.specs.Turns.{IsPaired, sent_of}
use Rattle.event_iteration.specs.WalkCalls.{has_events_at}
use Rattle.event_iteration.proofs.ByLog.{changing_interval, in_order, port_number}
use Rattle.course_laws.specs.Runs.{AreArmable, IsArmable}

abbrev arms_by : Call → Result Reply PeerFault → Bool
arms_by (C.GetInterval reference) result = is_instant_interval result
arms_by call result = false

-- the exchange arms a Clock for the point where it was asked
abbrev pub is_arming : Exchange → Bool
is_arming e = arms_by e.call e.result

-- an FMU with event mode armed a Clock for the point
pub record IsArmed (system : System) (log : List Sent) : Type 0 where
  pub component : ℕ
  pub event : has_events_at system component ≡ true
  pub arms : list_any is_arming (part component log) ≡ true

-- what was armed for the point is over with its tick
abbrev pub AreTaken : System → ℕ → List (Option ℤ) → List Timer → Type 0
AreTaken system t values timers = (p : ℕ) (port : Port) → slice_get system.ports p ≡ Some port → IsArmable port.role → slice_get timers p ≡ Some (Once t) → is_active (value values p) ≡ true

-- ---- before the first instant a changing Clock alone is armed

periodic_not : (i s : Option ℕ) (point : ℕ) → periodic_of i s ≡ Once point → ⊥
periodic_not (Some interval) (Some shift) point h = absurd (cc)
periodic_not (Some interval) None point h = absurd (cc)
periodic_not None s point h = absurd (cc)

fixed_not : (per_second : ℕ) (i : Interval) (s : Fraction) (point : ℕ) → fixed per_second i s ≡ Once point → ⊥
fixed_not per_second NotYetKnown s point h = absurd (cc)
fixed_not per_second (Unchanged f) s point h = periodic_not (counts_of f per_second) (counts_of s per_second) point h
fixed_not per_second (Changed f) s point h = periodic_not (counts_of f per_second) (counts_of s per_second) point h

told_armable : (role : Role) (per_second start : ℕ) (log : List Sent) (point : ℕ) → first_told_by role per_second start log ≡ Once point → IsArmable role
told_armable (TimeClock Answered) per_second start (interval ∷ (shift ∷ log)) point h = absurd (fixed_not per_second (interval_by (reply_in interval.exchange)) (shift_by (reply_in shift.exchange)) point h)
told_armable (TimeClock Answered) per_second start (interval ∷ []) point h = absurd (cc)
told_armable (TimeClock Answered) per_second start [] point h = absurd (cc)
told_armable (TimeClock Changing) per_second start log point h = inr refl
told_armable role per_second start log point h = absurd (cc)

armable_in : (per_second start : ℕ) (ports : List Port) (log : List Sent) (p point : ℕ) (port : Port) → slice_get ports p ≡ Some port → slice_get (first_told_in per_second start ports log) p ≡ Some (Once point) → IsArmable port.role
armable_in per_second start [] log p point port is h = absurd (cc)
armable_in per_second start (x ∷ ports) log zero point port is h = subst (λ (y : Port). IsArmable y.role) (same_Some _ _ is) (told_armable x.role per_second start log point (same_Some _ _ h))
armable_in per_second start (x ∷ ports) log (suc p) point port is h = armable_in per_second start ports (log_after x.role log) p point port is h

pub first_armable : (system : System) (per_second start : ℕ) (log : List Sent) → AreArmable system (first_told per_second start system log)
first_armable system per_second start log p port point at_port at = armable_in per_second start system.ports log p point port at_port at

-- ---- in an instant

pub instant_takes : (system : System) (sound : IsSound system) (start t n : ℕ) (timers : List Timer) (ticks : ℕ → Bool) (before values : List (Option ℤ)) (log : List Sent) → AreTicks system start timers t n ticks →
    Explains system (in_instant ticks (n == 0)) before (port_numbers system.instant_order) values log → AreTaken system t values timers
instant_takes system sound start t n timers ticks before values log are explains p port at sort armed = by sort where
  by_timing : (timing : Timing) → port.role ≡ TimeClock timing → is_active (value values p) ≡ true
  by_timing timing role =
      let due : timer_of timers p ≡ Once t = get_or_from_slice_get timers p (Once t) Never armed in
      let ticked : ticks p ≡ true = (are p port timing at role).1 (subst (λ (x : Timer). IsDue start x t n) (sym due) refl) in
      ap is_active
      (explains.taken_values p port at (sound.instant_order.each p (slice_get_within system.ports p port at))
      ∙ ap (λ (r : Role). takes_in_instant r port (ticks p) values (value before p) (explains.replies p)) role ∙ ap (λ (b : Bool). Some (tick_value b)) ticked)

  by : IsArmable port.role → is_active (value values p) ≡ true
  by (inl role) = by_timing Countdown role
  by (inr role) = by_timing Changing role

-- ---- numbers

is_equal : (a b : ℕ) → (a == b) ≡ true → a ≡ b
is_equal a b h = grind (arith, nat_tests)

-- no counts are no time
none_of : (x r : ℕ) → x / r ≡ 0 → x % r ≡ 0 → x ≡ 0
none_of x r q m = sym (div-add-mod x r) ∙ (let a : r * (x / r) ≡ r * 0 = ap (λ (y : ℕ). r * y) q in omega (arith, a, m))

positive : (per c : ℕ) → 0 < per → per * c ≡ 0 → c ≡ 0
positive per zero h e = refl
positive per (suc c) h e = absurd (omega (arith, h, e))

-- an interval of no counts has no length
counter_none : (f : Fraction) (per : ℕ) → 0 < per → (a b : Bool) → (per * f.counter % f.resolution == 0) ≡ b → (if a && b then Some (per * f.counter / f.resolution) else None) ≡ Some 0 → f.counter ≡ 0
counter_none f per above true true test h = positive per f.counter above (none_of (per * f.counter) f.resolution (same_Some _ _ h) (is_equal (per * f.counter % f.resolution) 0 test))
counter_none f per above true false test h = absurd (cc)
counter_none f per above false b test h = absurd (cc)

-- ---- after it

interval_told : (reply : Option Reply) (f : Fraction) → interval_by reply ≡ Changed f → (is_warning : Bool) × (reply ≡ Some (R.Done is_warning (A.GetInterval (Changed f))))
interval_told None f h = absurd (cc)
interval_told (Some (R.Done is_warning (A.GetInterval interval))) f h = (is_warning, ap (λ (i : Interval). Some (R.Done is_warning (A.GetInterval i))) h)
interval_told (Some (R.Done is_warning content)) f h = absurd (cc)
interval_told (Some (R.Refused kind status)) f h = absurd (cc)

some_once : (t : ℕ) (timers : List Timer) → is_some_armed t timers ≡ true → (p : ℕ) × (slice_get timers p ≡ Some (Once t))
some_once t [] h = absurd (cc)
some_once t (Never ∷ timers) h = let more = some_once t timers h in (suc more.0, more.1)
some_once t (Every interval shift ∷ timers) h = let more = some_once t timers h in (suc more.0, more.1)
some_once t (Once point ∷ timers) h = by (point == t) refl h (some_once t timers) where
  by : (b : Bool) → (point == t) ≡ b → (b || is_some_armed t timers) ≡ true → (is_some_armed t timers ≡ true → (p : ℕ) × (slice_get timers p ≡ Some (Once t))) → (p : ℕ) × (slice_get (Once point ∷ timers) p ≡ Some (Once t))
  by true same h more = (0, ap (λ (x : ℕ). Some (Once x)) (is_equal point t same))
  by false other h more = let m = more h in (suc m.0, m.1)

armable_or : (role : Role) (per_second t : ℕ) (v : Option ℤ) (reply : Option Reply) (timer old : Timer) → timer ≡ timer_after role per_second t v reply old → IsArmable role ⊎ (timer ≡ old)
armable_or (TimeClock Countdown) per_second t v reply timer old h = inl (inl refl)
armable_or (TimeClock Changing) per_second t v reply timer old h = inl (inr refl)
armable_or role per_second t v reply timer old h = inr h

-- no interval of at least one count arms a Clock for the point
no_length : (per_second t : ℕ) (f : Fraction) → has_counts 1 f per_second ≡ true → Once t ≡ armed_after t (counts_of f per_second) → ⊥
no_length per_second t f known h = by (counts_of f per_second) known h where
  by : (o : Option ℕ) → option_map_or (λ n. nat_le 1 n) o false ≡ true → Once t ≡ armed_after t o → ⊥
  by None known h = cc
  by (Some c) known h =
      let e : t ≡ t + c = cc in
      let above : 1 ≤ c = grind (arith, nat_tests) in
      omega (arith, e, above)

never_rearmed : (per_second t : ℕ) (i : Interval) → is_known_interval i per_second ≡ true → Once t ≡ rearmed per_second t i → ⊥
never_rearmed per_second t NotYetKnown known h = cc
never_rearmed per_second t (Unchanged f) known h = no_length per_second t f known h
never_rearmed per_second t (Changed f) known h = no_length per_second t f known h

module _ (system : System) (sound : IsSound system) (per_second t : ℕ) (values : List (Option ℤ)) (olds news : List Timer) (log : List Sent) (rearms : Rearms system per_second t values olds news log) (armable : AreArmable system olds) where
  abbrev replies : ℕ → Option Reply
  replies = rearms.explains.replies

  -- the timer of a port, by that before it
  record IsAfter (p : ℕ) (ports : List Port) (before : List Timer) (j : ℕ) (timer : Timer) : Type 0 where
    port : Port
    old : Timer
    port_at : slice_get ports j ≡ Some port
    old_at : slice_get before j ≡ Some old
    is : timer ≡ timer_after port.role per_second t (value values (p + j)) (replies (p + j)) old

  after_at : (p : ℕ) (ports : List Port) (olds : List Timer) (j : ℕ) (timer : Timer) → slice_get (timers_after_from per_second t values replies p ports olds) j ≡ Some timer → IsAfter p ports olds j timer
  after_at p [] olds j timer h = absurd (cc)
  after_at p (port ∷ ports) [] j timer h = absurd (cc)
  after_at p (port ∷ ports) (old ∷ olds) zero timer h = record {
    port = port;
    old = old;
    port_at = refl;
    old_at = refl;
    is = subst (λ (q : ℕ). timer ≡ timer_after port.role per_second t (value values q) (replies q) old) (omega arith) (sym (same_Some _ _ h));
  }
  after_at p (port ∷ ports) (old ∷ olds) (suc j) timer h =
      let b = after_at (suc p) ports olds j timer h in
      record {
        port = b.port;
        old = b.old;
        port_at = b.port_at;
        old_at = b.old_at;
        is = subst (λ (q : ℕ). timer ≡ timer_after b.port.role per_second t (value values q) (replies q) b.old) (let e : suc p + j ≡ p + suc j = omega arith in e) b.is;
      }

  here_after : (p : ℕ) (timer : Timer) → slice_get news p ≡ Some timer → IsAfter 0 system.ports olds p timer
  here_after p timer at = after_at 0 system.ports olds p timer (ap (λ (l : List Timer). slice_get l p) (sym rearms.timers_are) ∙ at)

  is_armable : (p point : ℕ) (b : IsAfter 0 system.ports olds p (Once point)) → IsArmable b.port.role
  is_armable p point b = by (armable_or b.port.role per_second t (value values (0 + p)) (replies (0 + p)) (Once point) b.old b.is) where
    by : IsArmable b.port.role ⊎ (Once point ≡ b.old) → IsArmable b.port.role
    by (inl is) = is
    by (inr same) = armable p b.port point b.port_at (b.old_at ∙ ap Some (sym same))

  pub rearmed_armable : AreArmable system news
  rearmed_armable p port point at_port at =
      let b = here_after p (Once point) at in
      subst (λ (x : Port). IsArmable x.role) (same_Some _ _ (sym b.port_at ∙ at_port)) (is_armable p point b)

  -- what is said for one of the ports is among what is said for all
  among : (f : Exchange → Bool) (i : ℕ) (order : List ℕ) (j p : ℕ) → slice_get order j ≡ Some p → list_any f (part i (said system (intervals values) values replies p)) ≡ true → list_any f (part i (all_said system (intervals values) values replies order)) ≡ true
  among f i [] j p at h = absurd (cc)
  among f i (q ∷ order) zero p at h =
      let a = said system (intervals values) values replies q in
      let b = all_said system (intervals values) values replies order in
      ap (list_any f) (part_append i a b) ∙ list_any-append f (part i a) (part i b) ∙ or_left _ _ (ap (λ (x : ℕ). list_any f (part i (said system (intervals values) values replies x))) (same_Some q p at) ∙ h)
  among f i (q ∷ order) (suc j) p at h =
      let a = said system (intervals values) values replies q in
      let b = all_said system (intervals values) values replies order in
      ap (list_any f) (part_append i a b) ∙ list_any-append f (part i a) (part i b) ∙ or_right _ _ (among f i order j p at h)

  module _ (above : (i : ℕ) (c : Component) → slice_get system.components i ≡ Some c → 0 < per_second) (taken : AreTaken system t values olds) (p : ℕ) (port : Port) (at : slice_get system.ports p ≡ Some port) (role : port.role ≡ TimeClock Countdown) where
    placed : Placed system p port
    placed = place_of system sound p port at

    event : has_events_at system port.component.0 ≡ true
    event = ap (λ (o : Option Component). option_map_or (λ (c : Component). c.shape.has_event_mode) o false) placed.is.of ∙ events_of system p port placed (ap is_clock_role role)

    said_here : (reply : Reply) → replies p ≡ Some reply → said system (intervals values) values replies p ≡ record { component = port.component.0; exchange = record { call = C.GetInterval port.reference; result = Ok reply } } ∷ []
    said_here reply is =
        ap (λ o. option_map_or (λ (x : Port). sent_of x.component.0 (call_at system (intervals values) values p x) (replies p)) o []) at
        ∙ ap (λ call. sent_of port.component.0 call (replies p)) (ap (λ o. option_and_then (λ (x : Component). asks_interval port.role port (value values p)) o) placed.is.of ∙ ap (λ r. asks_interval r port (value values p)) role)
        ∙ ap (λ o. sent_of port.component.0 (Some (C.GetInterval port.reference)) o) is

    told_here : (f : Fraction) → interval_by (replies p) ≡ Changed f → f.counter ≡ 0 → IsArmed system log
    told_here f is none =
        let told = interval_told (replies p) f is in
        let e : Exchange = record { call = C.GetInterval port.reference; result = Ok (R.Done told.0 (A.GetInterval (Changed f))) } in
        let i = port.component.0 in
        let here : list_any is_arming (part i (said system (intervals values) values replies p)) ≡ true =
        ap (λ (l : List Sent). list_any is_arming (part i l)) (said_here (R.Done told.0 (A.GetInterval (Changed f))) told.1) ∙ ap (list_any is_arming) (part_own i e) ∙ or_left (f.counter == 0) false (let zero : (f.counter == 0) ≡ true = grind (arith, nat_tests, none) in zero) in
        record {
          component = i;
          event = event;
          arms = ap (λ (l : List Sent). list_any is_arming (part i l)) rearms.explains.log_is ∙ among is_arming i (port_order system) p p (port_number system p (slice_get_within system.ports p port at)) here;
        }

    by_counts : (f : Fraction) → interval_by (replies p) ≡ Changed f → (o : Option ℕ) → counts_of f per_second ≡ o → Once t ≡ armed_after t o → IsArmed system log
    by_counts f is None same h = absurd (cc)
    by_counts f is (Some c) same h =
        let none : c ≡ 0 = (let e : t ≡ t + c = cc in omega (arith, e)) in
        told_here f is (counter_none f per_second (above port.component.0 placed.component placed.is.of) _ _ refl (same ∙ ap Some none))

    by_old : (b : Bool) → is_active (value values p) ≡ b → (old : Timer) → slice_get olds p ≡ Some old → Once t ≡ (if b then Never else old) → IsArmed system log
    by_old true active old old_at h = absurd (cc)
    by_old false active old old_at h = absurd (let wrong : true ≡ false = sym (taken p port at (inl role) (old_at ∙ ap Some (sym h))) ∙ active in cc)

    by_interval : (i : Interval) → interval_by (replies p) ≡ i → (old : Timer) → slice_get olds p ≡ Some old → Once t ≡ answered per_second t i (if is_active (value values p) then Never else old) → IsArmed system log
    by_interval NotYetKnown is old old_at h = absurd (cc)
    by_interval (Unchanged f) is old old_at h = by_old (is_active (value values p)) refl old old_at h
    by_interval (Changed f) is old old_at h = by_counts f is (counts_of f per_second) refl h

  -- a changing Clock is armed for the point neither by its tick nor without one
  module _ (counts : (i : ℕ) (c : Component) → slice_get system.components i ≡ Some c → c.shape.resolution ≡ per_second) (taken : AreTaken system t values olds) (p : ℕ) (port : Port) (at : slice_get system.ports p ≡ Some port) (role : port.role ≡ TimeClock Changing) where
    changing_placed : Placed system p port
    changing_placed = place_of system sound p port at

    asks_when : (b : Bool) → is_active (value values p) ≡ b → asks_interval port.role port (value values p) ≡ (if b then Some (C.GetInterval port.reference) else None)
    asks_when b active = ap (λ r. asks_interval r port (value values p)) role ∙ ap (λ (x : Bool). if x then Some (C.GetInterval port.reference) else None) active

    by_reply : (o : Option Reply) → IsPaired changing_placed.component.shape (Some (C.GetInterval port.reference)) o → Once t ≡ rearmed per_second t (interval_by o) → ⊥
    by_reply None paired h = paired
    by_reply (Some reply) good h =
        never_rearmed per_second t (interval_in reply) (changing_interval system p port changing_placed per_second (counts port.component.0 changing_placed.component changing_placed.is.of) role reply good) h

    by_tick : (b : Bool) → is_active (value values p) ≡ b → (old : Timer) → slice_get olds p ≡ Some old → Once t ≡ (if b then rearmed per_second t (interval_by (replies p)) else old) → ⊥
    by_tick false active old old_at h = let wrong : true ≡ false = sym (taken p port at (inr role) (old_at ∙ ap Some (sym h))) ∙ active in cc
    by_tick true active old old_at h =
        let among_order = (in_order system).each p (slice_get_within system.ports p port at) in
        by_reply (replies p) (subst (λ (o : Option Call). IsPaired changing_placed.component.shape o (replies p)) (asks_when true active) (rearms.explains.paired p port changing_placed.component at changing_placed.is.of among_order)) h

  timer_here : (p : ℕ) (b : IsAfter 0 system.ports olds p (Once t)) (r : Role) → b.port.role ≡ r → Once t ≡ timer_after r per_second t (value values p) (replies p) b.old
  timer_here p b r role = subst (λ (x : Role). Once t ≡ timer_after x per_second t (value values p) (replies p) b.old) role
      (subst (λ (q : ℕ). Once t ≡ timer_after b.port.role per_second t (value values q) (replies q) b.old) (let e : 0 + p ≡ p = omega arith in e) b.is)

  armed_by : ((i : ℕ) (c : Component) → slice_get system.components i ≡ Some c → 0 < per_second) → ((i : ℕ) (c : Component) → slice_get system.components i ≡ Some c → c.shape.resolution ≡ per_second) → AreTaken system t values olds → (p : ℕ) (b : IsAfter 0 system.ports olds p (Once t)) →
      IsArmable b.port.role → IsArmed system log
  armed_by above counts taken p b (inl role) = by_interval above taken p b.port b.port_at role (interval_by (replies p)) refl b.old b.old_at (timer_here p b (TimeClock Countdown) role)
  armed_by above counts taken p b (inr role) = absurd (by_tick counts taken p b.port b.port_at role (is_active (value values p)) refl b.old b.old_at (timer_here p b (TimeClock Changing) role))

  pub rearmed_armed : ((i : ℕ) (c : Component) → slice_get system.components i ≡ Some c → 0 < per_second) → ((i : ℕ) (c : Component) → slice_get system.components i ≡ Some c → c.shape.resolution ≡ per_second) → AreTaken system t values olds → is_some_armed t news ≡ true →
      IsArmed system log
  rearmed_armed above counts taken h =
      let some = some_once t news h in
      let b = here_after some.0 (Once t) some.1 in
      armed_by above counts taken some.0 b (is_armable some.0 t b)
