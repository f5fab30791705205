-- Where a run stands that is resumed: its values, its Clocks and its event times.
use Rattle.std.proofs.Common.{◌≡◌, ℕ, suc, zero, ◌+◌, ◌<◌, ◌≤◌, List, [], ◌∷◌, ◌++◌, Option, Some, None, refl, sym, ap, ap₂, ◌∙◌, subst, arith, length, map, take, drop, get_or}
use Rattle.std.specs.Prelude.{All, slice_set}
use Rattle.std.specs.List.{slice_get}
use Rattle.std.proofs.lemmas.List.{take_all}
use Rattle.std.proofs.lemmas.List.Elements.{All-cons, All-head, All-nil, All-tail}
use Rattle.system_model.specs.declared.system.Port.{Port}
use Rattle.system_model.specs.declared.system.Role.{Role}
use Rattle.system_model.specs.declared.system.Role.TheVariants.{Input, Output, ClockInput, ClockOutput, TimeClock}
use Rattle.system_model.specs.declared.system.System.{System}
use Rattle.system_model.specs.declared.system.Timing.TheVariants.{Periodic, Answered, Countdown, Changing}
use Rattle.system_model.specs.Sound.{IsSound}
use Rattle.system_checkpoint.specs.declared.snapshot.Arming.{Arming}
use Rattle.system_checkpoint.specs.declared.snapshot.Arming.TheVariants as A
use Rattle.system_checkpoint.specs.declared.snapshot.ClockTimes.{ClockTimes}
use Rattle.system_checkpoint.specs.declared.snapshot.Snapshot.{Snapshot}
use Rattle.system_checkpoint.specs.Spelling.{AllBy, HasArming, HasTimes}
use Rattle.system_checkpoint.specs.Whole.{is_asked, may_be_armed}
use Rattle.tick_schedule.specs.declared.clock.ClockState.{ClockState}
use Rattle.tick_schedule.specs.declared.clock.ClockState.TheVariants as S
use Rattle.tick_schedule.specs.Timetable.{IsSoundClock, Timetable, resumed_state, with_clock, with_event}
use Rattle.event_iteration.specs.Clocks.{first_clock}
use Rattle.event_iteration.proofs.SoundClocks.{sound_clocks}
use Rattle.calling_sequence.specs.Holding.{AreArmable, armed_as, armed_by, clock_by, clocks_by, each_by}

-- ---- lists by ports

pub by_len : {A V : Type 0} (P : A → V → Type 0) (xs : List A) (vs : List V) → AllBy P xs vs → length vs ≡ length xs
by_len P [] [] all = refl
by_len P [] (v ∷ vs) all = absurd all
by_len P (x ∷ xs) [] all = absurd all
by_len P (x ∷ xs) (v ∷ vs) all = ap suc (by_len P xs vs all.1)

module _ {V A : Type 0} (of : Port → V → A) where
  pub each_len : (ports : List Port) (given : List V) → length given ≡ length ports → length (each_by of ports given) ≡ length ports
  each_len [] given len = refl
  each_len (port ∷ ports) [] len = absurd (omega (arith, len))
  each_len (port ∷ ports) (x ∷ given) len = ap suc (each_len ports given (omega (arith, len)))

  pub each_at : (ports : List Port) (given : List V) (i : ℕ) (port : Port) (x : V) (d : A) → i < length ports → length given ≡ length ports → port ≡ get_or ports i port → x ≡ get_or given i x → get_or (each_by of ports given) i d ≡ of port x
  each_at [] given i port x d within len at there = absurd (omega (arith, within))
  each_at (p ∷ ports) [] i port x d within len at there = absurd (omega (arith, len))
  each_at (p ∷ ports) (y ∷ given) zero port x d within len at there = ap₂ of (sym at) (sym there)
  each_at (p ∷ ports) (y ∷ given) (suc i) port x d within len at there = each_at ports given i port x d (omega (arith, within)) (omega (arith, len)) at there

-- ---- armings, one after the other

with_clocks : Timetable → List ClockState → Timetable
with_clocks old l = record old { clocks = l }

with_times : Timetable → List (Option ℕ) → Timetable
with_times old l = record old { events = l }

pub armed_at : (armings : List Arming) (states : List ClockState) (k point : ℕ) → slice_get armings k ≡ Some (A.At point) → armed_by (take (suc k) armings) states ≡ slice_set (armed_by (take k armings) states) k (S.Countdown (Some point))
armed_at [] states k point at = absurd (cc)
armed_at (a ∷ armings) [] zero point at = refl
armed_at (a ∷ armings) [] (suc k) point at = refl
armed_at (a ∷ armings) (s ∷ states) zero point at = let same : a ≡ A.At point = cc in ap (λ (x : Arming). armed_as x s ∷ states) same
armed_at (a ∷ armings) (s ∷ states) (suc k) point at = ap (λ (l : List ClockState). armed_as a s ∷ l) (armed_at armings states k point at)

pub unarmed_at : (armings : List Arming) (states : List ClockState) (k : ℕ) (arming : Arming) → slice_get armings k ≡ Some arming → ((s : ClockState) → armed_as arming s ≡ s) → armed_by (take (suc k) armings) states ≡ armed_by (take k armings) states
unarmed_at [] states k arming at same = absurd (cc)
unarmed_at (a ∷ armings) [] zero arming at same = refl
unarmed_at (a ∷ armings) [] (suc k) arming at same = refl
unarmed_at (a ∷ armings) (s ∷ states) zero arming at same = let is : a ≡ arming = cc in ap (λ (x : Arming). armed_as x s ∷ states) is ∙ ap (λ (x : ClockState). x ∷ states) (same s)
unarmed_at (a ∷ armings) (s ∷ states) (suc k) arming at same = ap (λ (l : List ClockState). armed_as a s ∷ l) (unarmed_at armings states k arming at same)

pub not_yet : (armings : List Arming) (states : List ClockState) (k : ℕ) → slice_get (armed_by (take k armings) states) k ≡ slice_get states k
not_yet [] states zero = refl
not_yet [] states (suc k) = refl
not_yet (a ∷ armings) states zero = refl
not_yet (a ∷ armings) [] (suc k) = refl
not_yet (a ∷ armings) (s ∷ states) (suc k) = not_yet armings states k

pub armed_whole : (armings : List Arming) (states : List ClockState) (k : ℕ) → length armings ≤ k → armed_by (take k armings) states ≡ armed_by armings states
armed_whole armings states k over = ap (λ (l : List Arming). armed_by l states) (take_all k armings over)

-- what stands at a place, where another would be there after the end
pub placed_at : {A : Type 0} (xs : List A) (k : ℕ) (d x : A) → k < length xs → get_or xs k d ≡ x → slice_get xs k ≡ Some x
placed_at [] k d x within is = absurd (omega (arith, within))
placed_at (y ∷ xs) zero d x within is = ap Some is
placed_at (y ∷ xs) (suc k) d x within is = placed_at xs k d x (omega (arith, within)) is

next_is : (k : ℕ) → suc k ≡ k + 1
next_is k = omega arith

-- one more that is armed
pub arms : (armings : List Arming) (old now new : Timetable) (k point told : ℕ) → k < length armings → get_or armings k A.NoClock ≡ A.At point → told ≡ point → now ≡ record old { clocks = armed_by (take k armings) old.clocks } → new ≡ with_clock now k (S.Countdown (Some told)) →
    new ≡ record old { clocks = armed_by (take (k + 1) armings) old.clocks }
unfolding with_clocks
arms armings old now new k point told within at same prefix last =
    last ∙ ap₂ (λ (t : Timetable) (n : ℕ). with_clock t k (S.Countdown (Some n))) prefix same
    ∙ ap (λ (l : List ClockState). with_clocks old l) (sym (armed_at armings old.clocks k point (placed_at armings k A.NoClock (A.At point) within at)) ∙ ap (λ (n : ℕ). armed_by (take n armings) old.clocks) (next_is k))

-- and one that isn't
pub arms_none : (armings : List Arming) (old now new : Timetable) (k : ℕ) → k < length armings → ((point : ℕ) → get_or armings k A.NoClock ≡ A.At point → ⊥) → now ≡ record old { clocks = armed_by (take k armings) old.clocks } → new ≡ now →
    new ≡ record old { clocks = armed_by (take (k + 1) armings) old.clocks }
unfolding with_clocks
arms_none armings old now new k within not prefix last =
    last ∙ prefix ∙ ap (λ (l : List ClockState). with_clocks old l) (sym (unarmed_at armings old.clocks k (get_or armings k A.NoClock) (placed_at armings k A.NoClock (get_or armings k A.NoClock) within refl) (stays (get_or armings k A.NoClock) not)) ∙ ap (λ (n : ℕ). armed_by (take n armings) old.clocks) (next_is k)) where
      stays : (arming : Arming) → ((point : ℕ) → arming ≡ A.At point → ⊥) → (s : ClockState) → armed_as arming s ≡ s
      stays A.NoClock none s = refl
      stays A.Unarmed none s = refl
      stays (A.At point) none s = absurd (none point refl)

-- ---- event times, one after the other

pub timed_more : (xs ys : List (Option ℕ)) (k : ℕ) (x : Option ℕ) → length ys ≡ length xs → slice_get xs k ≡ Some x → slice_set (take k xs ++ drop k ys) k x ≡ take (suc k) xs ++ drop (suc k) ys
timed_more [] ys k x len at = absurd (cc)
timed_more (y ∷ xs) [] k x len at = absurd (omega (arith, len))
timed_more (y ∷ xs) (z ∷ ys) zero x len at = let same : x ≡ y = cc in ap (λ (v : Option ℕ). v ∷ ys) same
timed_more (y ∷ xs) (z ∷ ys) (suc k) x len at = ap (λ (l : List (Option ℕ)). y ∷ l) (timed_more xs ys k x (omega (arith, len)) at)

-- one more that has its event time
pub times_one : (xs : List (Option ℕ)) (old now new : Timetable) (k : ℕ) → k < length xs → length xs ≡ length old.events → now ≡ record old { events = take k xs ++ drop k old.events } → new ≡ with_event now k (get_or xs k None) →
    new ≡ record old { events = take (k + 1) xs ++ drop (k + 1) old.events }
unfolding with_times
times_one xs old now new k within len prefix last =
    last ∙ ap (λ (t : Timetable). with_event t k (get_or xs k None)) prefix
    ∙ ap (λ (l : List (Option ℕ)). with_times old l) (timed_more xs old.events k (get_or xs k None) (sym len) (placed_at xs k None (get_or xs k None) within refl) ∙ ap (λ (n : ℕ). take n xs ++ drop n old.events) (next_is k))

-- ---- the Clocks of what was held

sound_of : (role : Role) (times : Option ClockTimes) → HasTimes (is_asked role) times → IsSoundClock (first_clock role) → IsSoundClock (clock_by role times)
sound_of role None has first = first
sound_of (TimeClock Answered) (Some times) has first = record { interval = (let above = has.moves in omega (arith, above), has.interval); shift = has.shift }
sound_of (TimeClock (Periodic interval shift)) (Some times) has first = absurd (let none : Some times ≡ None = has in cc)
sound_of (TimeClock Countdown) (Some times) has first = absurd (let none : Some times ≡ None = has in cc)
sound_of (TimeClock Changing) (Some times) has first = absurd (let none : Some times ≡ None = has in cc)
sound_of (Input feed) (Some times) has first = absurd (let none : Some times ≡ None = has in cc)
sound_of Output (Some times) has first = absurd (let none : Some times ≡ None = has in cc)
sound_of (ClockInput feed) (Some times) has first = absurd (let none : Some times ≡ None = has in cc)
sound_of ClockOutput (Some times) has first = absurd (let none : Some times ≡ None = has in cc)

abbrev FirstSound : List Port → Type 0
FirstSound ports = All IsSoundClock (map (λ (port : Port). first_clock port.role) ports)

sound_by : (ports : List Port) (times : List (Option ClockTimes)) → AllBy (λ (port : Port). HasTimes (is_asked port.role)) ports times → FirstSound ports → All IsSoundClock (clocks_by ports times)
sound_by [] [] all first = All-nil IsSoundClock
sound_by [] (t ∷ times) all first = absurd all
sound_by (port ∷ ports) [] all first = absurd all
sound_by (port ∷ ports) (t ∷ times) all first =
    let rest = map (λ (p : Port). first_clock p.role) ports in
    All-cons IsSoundClock (clock_by port.role t) (clocks_by ports times) (sound_of port.role t all.0 (All-head IsSoundClock (first_clock port.role) rest first)) (sound_by ports times all.1 (All-tail IsSoundClock (first_clock port.role) rest first))

pub clocks_sound : (system : System) (times : List (Option ClockTimes)) → IsSound system → AllBy (λ (port : Port). HasTimes (is_asked port.role)) system.ports times → All IsSoundClock (clocks_by system.ports times)
clocks_sound system times sound all = sound_by system.ports times all (sound_clocks system sound)

-- what was armed is a countdown or changing Clock that isn't armed yet
armable_here : (held : Snapshot) (start t : ℕ) (role : Role) (times : Option ClockTimes) (point : ℕ) → HasTimes (is_asked role) times → HasArming held (may_be_armed role) (A.At point) → resumed_state start t (clock_by role times) ≡ S.Countdown None
armable_here held start t (TimeClock Countdown) None point has armed = refl
armable_here held start t (TimeClock Changing) None point has armed = refl
armable_here held start t (TimeClock Countdown) (Some times) point has armed = absurd (let none : Some times ≡ None = has in cc)
armable_here held start t (TimeClock Changing) (Some times) point has armed = absurd (let none : Some times ≡ None = has in cc)
armable_here held start t (TimeClock Answered) times point has armed = absurd (let none : A.At point ≡ A.NoClock = armed in cc)
armable_here held start t (TimeClock (Periodic interval shift)) times point has armed = absurd (let none : A.At point ≡ A.NoClock = armed in cc)
armable_here held start t (Input feed) times point has armed = absurd (let none : A.At point ≡ A.NoClock = armed in cc)
armable_here held start t Output times point has armed = absurd (let none : A.At point ≡ A.NoClock = armed in cc)
armable_here held start t (ClockInput feed) times point has armed = absurd (let none : A.At point ≡ A.NoClock = armed in cc)
armable_here held start t ClockOutput times point has armed = absurd (let none : A.At point ≡ A.NoClock = armed in cc)

pub are_armable : (held : Snapshot) (start t : ℕ) (ports : List Port) (times : List (Option ClockTimes)) (armings : List Arming) → AllBy (λ (port : Port). HasTimes (is_asked port.role)) ports times → AllBy (λ (port : Port). HasArming held (may_be_armed port.role)) ports armings →
    AreArmable armings (map (resumed_state start t) (clocks_by ports times))
are_armable held start t [] [] [] a b = λ clock point at. absurd (cc)
are_armable held start t [] [] (x ∷ armings) a b = absurd b
are_armable held start t [] (y ∷ times) armings a b = absurd a
are_armable held start t (port ∷ ports) [] armings a b = absurd a
are_armable held start t (port ∷ ports) (y ∷ times) [] a b = absurd b
are_armable held start t (port ∷ ports) (y ∷ times) (x ∷ armings) a b = λ clock point at. by clock point at (are_armable held start t ports times armings a.1 b.1) where
  by : (clock point : ℕ) → slice_get (x ∷ armings) clock ≡ Some (A.At point) → AreArmable armings (map (resumed_state start t) (clocks_by ports times)) → slice_get (map (resumed_state start t) (clocks_by (port ∷ ports) (y ∷ times))) clock ≡ Some (S.Countdown None)
  by zero point at rest = let same : x ≡ A.At point = cc in ap Some (armable_here held start t port.role y point a.0 (subst (λ (z : Arming). HasArming held (may_be_armed port.role) z) same b.0))
  by (suc clock) point at rest = rest clock point at
