-- The turns before a step and after an instant of the ports that take no part there.
use Rattle.std.proofs.Common.{◌≡◌, ℕ, ◌+◌, ◌-◌, ◌<◌, ◌≤◌, ℤ, Bool, true, false, List, [], Option, Some, None, ap, arith, get_or, length, refl, subst, suc, sym, take, zero, append-nil, ◌∙◌}
use Rattle.std.specs.Prelude.{◌&&◌, ◌||◌, not, if◌then◌else◌, slice_get}
use Rattle.std.specs.Option.{option_map_or}
use Rattle.std.proofs.lemmas.List.{set-get_or}
use Rattle.std.proofs.lemmas.Option.{slice_get_within}
use Rattle.fmi_calls.specs.declared.call.Interval.TheVariants.{NotYetKnown}
use Rattle.fmu_peer.specs.CloseAll.{Instance}
use Rattle.system_model.specs.declared.system.Component.{Component}
use Rattle.system_model.specs.declared.system.Role.{Role}
use Rattle.system_model.specs.declared.system.Role.TheVariants.{Input, Output, ClockInput, ClockOutput, TimeClock}
use Rattle.system_model.specs.declared.system.Port.{Port}
use Rattle.system_model.specs.declared.system.System.{System}
use Rattle.system_model.specs.Sound.{IsSound}
use Rattle.system_model.specs.Values.{value}
use Rattle.system_model.proofs.CallerLemmas.{place_of, true_false}
use Rattle.run_model.specs.Timers.{is_armed_for}
use Rattle.slot_calls.specs.Log.{Sent}
use Rattle.tick_schedule.specs.Timetable.{Timetable, with_clock}
use Rattle.tick_schedule.specs.declared.clock.ClockState.{ClockState}
use Rattle.event_iteration.specs.Clocks.{IsPlaceOf, StandsAt, timer_in}
use Rattle.event_iteration.specs.Intervals.{is_time_clock}
use Rattle.event_iteration.specs.Participants.{AreSkips, LacksAt, is_fed_input, is_set_before_step}
use Rattle.event_iteration.specs.Questions.{is_asked_after, place_after}
use Rattle.event_iteration.specs.Settings.{before_step, port_order, sets_to}
use Rattle.event_iteration.specs.Turns.{IsPaired, Turn, Walked, Went, sent_of}
use Rattle.event_iteration.proofs.Fmus.{got}
use Rattle.event_iteration.proofs.Places.{with_same}
use Rattle.event_iteration.proofs.Rearming.{Rearming, asks_nothing, rearming_more}
use Rattle.event_iteration.proofs.Setting.{port_number}
use Rattle.event_iteration.proofs.Walking.{more_order}

-- ---- before a step

-- what is no connected input isn't set
sets_nothing : (role : Role) (port : Port) (v : Option ℤ) → is_fed_input role ≡ false → sets_to role port v ≡ None
sets_nothing (Input None) port v unfed = refl
sets_nothing (Input (Some feed)) port v unfed = absurd (true_false unfed)
sets_nothing Output port v unfed = refl
sets_nothing (ClockInput feed) port v unfed = refl
sets_nothing ClockOutput port v unfed = refl
sets_nothing (TimeClock timing) port v unfed = refl

sends_nothing : (port : Port) (v : Option ℤ) (f e : Bool) → is_fed_input port.role ≡ f → (f && not e) ≡ false → (if e then None else sets_to port.role port v) ≡ None
sends_nothing port v f true is fact = refl
sends_nothing port v true false is fact = absurd (true_false fact)
sends_nothing port v false false is fact = sets_nothing port.role port v is

set_idle : (system : System) (sound : IsSound system) (now : List (Option ℤ)) (p : ℕ) (port : Port) → slice_get system.ports p ≡ Some port → is_set_before_step system port ≡ false → Turn system (before_step now) p None now now []
set_idle system sound now p port is other =
    let placed = place_of system sound p port is in
    let c = placed.component in
    let fact : (is_fed_input port.role && not c.shape.has_event_mode) ≡ false =
    sym (ap (λ (o : Option Component). is_fed_input port.role && option_map_or (λ (y : Component). not y.shape.has_event_mode) o false) placed.is.of) ∙ other in
    let none = sends_nothing port (value now p) (is_fed_input port.role) c.shape.has_event_mode refl fact in
    record {
      port = port;
      is = is;
      component = c;
      of = placed.is.of;
      paired = subst (λ (o : Option _). IsPaired c.shape o None) (sym none) tt;
      sent_is = sym (ap (λ (o : Option _). sent_of port.component.0 o None) none);
      next_is = sym (set-get_or now p None);
    }

-- up to the next that is set
pub set_up_to : (system : System) (sound : IsSound system) (next : List ℕ) → AreSkips (length system.ports) (LacksAt system (port_order system) (is_set_before_step system)) next → (now : List (Option ℤ)) (log : List Sent) (k m : ℕ) → k + m ≤ length system.ports → k + m ≤ get_or next k k →
    Walked system (before_step now) now (take k (port_order system)) now log → Walked system (before_step now) now (take (k + m) (port_order system)) now log
set_up_to system sound next skips now log k zero within up_to walked = subst (λ (n : ℕ). Walked system (before_step now) now (take n (port_order system)) now log) (let e : k ≡ k + 0 = omega arith in e) walked
set_up_to system sound next skips now log k (suc m) within up_to walked =
    let p = k + m in
    let port = got system.ports p (omega (arith, within)) in
    let at = port_number system p (omega (arith, within)) in
    let other = skips.out_between k p (omega arith) (omega (arith, up_to)) p port.0 at port.1 in
    let prefix = set_up_to system sound next skips now log k m (omega (arith, within)) (omega (arith, up_to)) walked in
    subst (λ (n : ℕ). Walked system (before_step now) now (take n (port_order system)) now log) (let e : k + m + 1 ≡ k + suc m = omega arith in e)
    (Went _ (take p (port_order system)) p None now now log log [] (more_order (port_order system) p p at) (sym (append-nil log)) prefix (set_idle system sound now p port.0 port.1 other))

-- ---- after an instant

-- what is no time-based Clock isn't asked, and its place stays
not_asked : (role : Role) (v : Option ℤ) → is_time_clock role ≡ false → is_asked_after role v ≡ false
not_asked (Input feed) v other = refl
not_asked Output v other = refl
not_asked (ClockInput feed) v other = refl
not_asked ClockOutput v other = refl
not_asked (TimeClock timing) v other = absurd (true_false other)

stays_there : (role : Role) (per_second t : ℕ) (v : Option ℤ) (place : ClockState) → is_time_clock role ≡ false → place_after role per_second t v NotYetKnown place ≡ place
stays_there (Input feed) per_second t v place other = refl
stays_there Output per_second t v place other = refl
stays_there (ClockInput feed) per_second t v place other = refl
stays_there ClockOutput per_second t v place other = refl
stays_there (TimeClock timing) per_second t v place other = absurd (true_false other)

never_armed : (role : Role) (per_second t : ℕ) (v : Option ℤ) (place : ClockState) → is_time_clock role ≡ false → IsPlaceOf role place → false ≡ is_armed_for t (timer_in (place_after role per_second t v NotYetKnown place))
never_armed (Input feed) per_second t v place other of = sym (ap (λ (x : ClockState). is_armed_for t (timer_in x)) of)
never_armed Output per_second t v place other of = sym (ap (λ (x : ClockState). is_armed_for t (timer_in x)) of)
never_armed (ClockInput feed) per_second t v place other of = sym (ap (λ (x : ClockState). is_armed_for t (timer_in x)) of)
never_armed ClockOutput per_second t v place other of = sym (ap (λ (x : ClockState). is_armed_for t (timer_in x)) of)
never_armed (TimeClock timing) per_second t v place other of = absurd (true_false other)

or_false : (b : Bool) → b ≡ (b || false)
or_false true = refl
or_false false = refl

-- a port that is no time-based Clock
rearming_idle : (system : System) (sound : IsSound system) (per_second t k : ℕ) (is_first : Bool) (values : List (Option ℤ)) → length values ≡ length system.ports → (port : Port) → slice_get system.ports k ≡ Some port → is_time_clock port.role ≡ false →
    (before table : Timetable) (armed : Bool) (olds mids : List Instance) → StandsAt system t is_first before → Rearming system per_second t k values before table armed olds mids → Rearming system per_second t (k + 1) values before table armed olds mids
rearming_idle system sound per_second t k is_first values places port is other before table armed olds mids stands prefix =
    let place = got before.clocks k (let w = slice_get_within system.ports k port is in let n = stands.len in omega (arith, w, n)) in
    let at : slice_get table.clocks k ≡ Some place.0 = prefix.after.ahead k (omega arith) ∙ place.1 in
    rearming_more system per_second t k values places port is before table table armed false olds mids mids prefix None (asks_nothing system sound k port is mids (value values k) (not_asked port.role (value values k) other)) refl place.0 at
    (with_same table k place.0 at ∙ ap (with_clock table k) (sym (stays_there port.role per_second t (value values k) place.0 other)))
    (never_armed port.role per_second t (value values k) place.0 other (stands.places k port place.0 is place.1)) armed (or_false armed)

-- up to the next time-based Clock
pub rearming_up_to : (system : System) (sound : IsSound system) (next : List ℕ) → AreSkips (length system.ports) (LacksAt system (port_order system) (λ (port : Port). is_time_clock port.role)) next → (per_second t k m : ℕ) (is_first : Bool) (values : List (Option ℤ)) → length values ≡ length system.ports →
    (before table : Timetable) (armed : Bool) (olds mids : List Instance) → StandsAt system t is_first before → k + m ≤ length system.ports → k + m ≤ get_or next k k → Rearming system per_second t k values before table armed olds mids → Rearming system per_second t (k + m) values before table armed olds mids
rearming_up_to system sound next skips per_second t k zero is_first values places before table armed olds mids stands within up_to prefix = subst (λ (n : ℕ). Rearming system per_second t n values before table armed olds mids) (let e : k ≡ k + 0 = omega arith in e) prefix
rearming_up_to system sound next skips per_second t k (suc m) is_first values places before table armed olds mids stands within up_to prefix =
    let p = k + m in
    let up = rearming_up_to system sound next skips per_second t k m is_first values places before table armed olds mids stands (omega (arith, within)) (omega (arith, up_to)) prefix in
    let port = got system.ports p (omega (arith, within)) in
    let other = skips.out_between k p (omega arith) (omega (arith, up_to)) p port.0 (port_number system p (omega (arith, within))) port.1 in
    subst (λ (n : ℕ). Rearming system per_second t n values before table armed olds mids) (let e : k + m + 1 ≡ k + suc m = omega arith in e)
    (rearming_idle system sound per_second t p is_first values places port.0 port.1 other before table armed olds mids stands up)

-- likewise, where the next is given
pub rearming_next : (system : System) (sound : IsSound system) (next : List ℕ) → AreSkips (length system.ports) (LacksAt system (port_order system) (λ (port : Port). is_time_clock port.role)) next → (per_second t k p : ℕ) (is_first : Bool) (values : List (Option ℤ)) → length values ≡ length system.ports →
    (before table : Timetable) (armed : Bool) (olds mids : List Instance) → StandsAt system t is_first before → k ≤ length system.ports → p ≡ get_or next k k → Rearming system per_second t k values before table armed olds mids → Rearming system per_second t p values before table armed olds mids
rearming_next system sound next skips per_second t k p is_first values places before table armed olds mids stands within is prefix =
    let low = skips.after k in
    let high = skips.within k within in
    let more : k + (p - k) ≡ p = omega (arith, is, low) in
    subst (λ (n : ℕ). Rearming system per_second t n values before table armed olds mids) more
    (rearming_up_to system sound next skips per_second t k (p - k) is_first values places before table armed olds mids stands (omega (arith, more, is, high)) (omega (arith, more, is)) prefix)

pub set_next : (system : System) (sound : IsSound system) (next : List ℕ) → AreSkips (length system.ports) (LacksAt system (port_order system) (is_set_before_step system)) next → (now : List (Option ℤ)) (log : List Sent) (k p : ℕ) → k ≤ length system.ports → p ≡ get_or next k k →
    Walked system (before_step now) now (take k (port_order system)) now log → Walked system (before_step now) now (take p (port_order system)) now log
set_next system sound next skips now log k p within is walked =
    let low = skips.after k in
    let high = skips.within k within in
    let more : k + (p - k) ≡ p = omega (arith, is, low) in
    subst (λ (n : ℕ). Walked system (before_step now) now (take n (port_order system)) now log) more (set_up_to system sound next skips now log k (p - k) (omega (arith, more, is, high)) (omega (arith, more, is)) walked)
