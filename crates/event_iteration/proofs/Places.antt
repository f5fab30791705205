-- Where Clocks stand in a schedule, and their timers.
use Rattle.std.proofs.Common.{◌≡◌, inl, inr, ℕ, zero, suc, ◌+◌, ◌*◌, ◌<◌, ◌≤◌, ◌==◌, ℤ, Bool, true, false, List, [], ◌∷◌, ◌++◌, Option, Some, None, refl, sym, ap, ◌∙◌, subst, arith, length, set, map, take}
use Rattle.std.specs.Prelude.{IfSome, IsSomeAnd, if◌then◌else◌, option_map, slice_get}
use Rattle.std.specs.Option.{option_map_or}
use Rattle.std.proofs.lemmas.Bool.{cases_lt, eq-eqb, eqb-true}
use Rattle.std.proofs.lemmas.Bool.Decides.{nat_tests}
use Rattle.std.proofs.lemmas.List.{get_or-set_same, length-map, length-set, map-set, set-get_or, take_more_set}
use Rattle.std.proofs.lemmas.Option.{get_or_from_slice_get, same_Some, slice_get_read, slice_get_within}
use Rattle.clock_fraction.specs.Counts.{counts_of}
use Rattle.fmi_calls.specs.declared.call.Interval.{Interval}
use Rattle.fmi_calls.specs.declared.call.Interval.TheVariants.{NotYetKnown, Unchanged, Changed}
use Rattle.fmi_calls.specs.declared.call.Reply.{Reply}
use Rattle.system_model.specs.declared.system.Role.{Role}
use Rattle.system_model.specs.declared.system.Role.TheVariants.{TimeClock}
use Rattle.system_model.specs.declared.system.Timing.TheVariants.{Periodic, Answered, Countdown, Changing}
use Rattle.system_model.proofs.CallerLemmas.{true_false}
use Rattle.tick_schedule.specs.declared.clock.ClockState.{ClockState}
use Rattle.tick_schedule.specs.declared.clock.ClockState.TheVariants as S
use Rattle.tick_schedule.specs.Timetable.{HasNext, IsCountdown, IsToTick, Timetable, with_clock}
use Rattle.system_model.specs.Values.{is_active}
use Rattle.run_model.specs.Run.{Never, Every}
use Rattle.run_model.specs.Timers.{answered, armed_after, is_armed_for, rearmed as run_rearmed}
use Rattle.event_iteration.specs.Clocks.{IsNextFrom, IsPlaceOf, is_due_in, timer_in, timers_in}
use Rattle.event_iteration.specs.Intervals.{interval_by, is_time_clock, timer_after}
use Rattle.event_iteration.specs.Questions.{GoesFrom, IsAfter, IsArmed, armed_anew, arms_now, counts_told, has_no_count, is_asked_after, place_after, rearmed, ticked_if}
use Rattle.event_iteration.proofs.ClockTicks.{tick_due}

-- ---- lists

set_here : {X : Type 0} (xs : List X) (k : ℕ) (x : X) → k < length xs → slice_get (set xs k x) k ≡ Some x
set_here xs k x w = slice_get_read (set xs k x) (length xs) k x (sym (length-set xs k x)) w (sym (get_or-set_same xs k x x w))

set_beside : {X : Type 0} (xs : List X) (k : ℕ) (x : X) (q : ℕ) → (q ≡ k → ⊥) → slice_get (set xs k x) q ≡ slice_get xs q
set_beside [] k x q other = refl
set_beside (y ∷ xs) zero x zero other = absurd (other refl)
set_beside (y ∷ xs) zero x (suc q) other = refl
set_beside (y ∷ xs) (suc k) x zero other = refl
set_beside (y ∷ xs) (suc k) x (suc q) other = set_beside xs k x q (λ e. other (ap suc e))

pub set_same : {X : Type 0} (xs : List X) (k : ℕ) (x : X) → slice_get xs k ≡ Some x → set xs k x ≡ xs
set_same xs k x is = ap (set xs k) (sym (get_or_from_slice_get xs k x x is)) ∙ set-get_or xs k x

-- ---- a Clock that has ticked or not

due_ticks : (table : Timetable) (t p : ℕ) (place : ClockState) → slice_get table.clocks p ≡ Some place → t ≤ table.stop → is_due_in table.start t place ≡ true → HasNext table p
due_ticks table t p place is within due = (t, (within, subst (λ (o : Option ClockState). IsSomeAnd o (λ state. IsToTick table.start state t)) (sym is) (tick_due table.start t place due)))

timer_ticked : (b : Bool) (interval shift ticks : ℕ) → timer_in (ticked_if b (S.Periodic interval shift ticks)) ≡ Every interval shift
timer_ticked true interval shift ticks = refl
timer_ticked false interval shift ticks = refl

timer_taken : (b : Bool) (armed : Option ℕ) → timer_in (ticked_if b (S.Countdown armed)) ≡ (if b then Never else timer_in (S.Countdown armed))
timer_taken true armed = refl
timer_taken false armed = refl

timer_armed : (t : ℕ) (o : Option ℕ) → timer_in (S.Countdown (option_map (λ counts. t + counts) o)) ≡ armed_after t o
timer_armed t None = refl
timer_armed t (Some counts) = refl

timer_rearmed : (per_second t : ℕ) (told : Interval) (place : ClockState) → timer_in (rearmed per_second t told place) ≡ answered per_second t told (timer_in place)
timer_rearmed per_second t NotYetKnown place = refl
timer_rearmed per_second t (Unchanged f) place = refl
timer_rearmed per_second t (Changed f) place = timer_armed t (counts_of f per_second)

timer_anew : (per_second t : ℕ) (told : Interval) → timer_in (armed_anew per_second t told) ≡ run_rearmed per_second t told
timer_anew per_second t NotYetKnown = refl
timer_anew per_second t (Unchanged f) = timer_armed t (counts_of f per_second)
timer_anew per_second t (Changed f) = timer_armed t (counts_of f per_second)

timer_of_changing : (b : Bool) (per_second t : ℕ) (told : Interval) (place : ClockState) → timer_in (if b then armed_anew per_second t told else place) ≡ (if b then run_rearmed per_second t told else timer_in place)
timer_of_changing true per_second t told place = timer_anew per_second t told
timer_of_changing false per_second t told place = refl

-- the timer after an instant
pub timer_of_place : (role : Role) (per_second t : ℕ) (v : Option ℤ) (reply : Option Reply) (place : ClockState) → IsPlaceOf role place →
    timer_in (place_after role per_second t v (interval_by reply) place) ≡ timer_after role per_second t v reply (timer_in place)
timer_of_place (TimeClock Countdown) per_second t v reply place of =
    timer_rearmed per_second t (interval_by reply) (ticked_if (is_active v) place)
    ∙ ap (answered per_second t (interval_by reply)) (ap (λ (x : ClockState). timer_in (ticked_if (is_active v) x)) of.1 ∙ timer_taken (is_active v) of.0 ∙ sym (ap (λ (x : ClockState). if is_active v then Never else timer_in x) of.1))
timer_of_place (TimeClock Changing) per_second t v reply place of = timer_of_changing (is_active v) per_second t (interval_by reply) place
timer_of_place (TimeClock (Periodic interval shift)) per_second t v reply place of =
    ap (λ (x : ClockState). timer_in (ticked_if (is_active v) x)) of.1 ∙ timer_ticked (is_active v) interval shift of.0 ∙ sym (ap timer_in of.1)
timer_of_place (TimeClock Answered) per_second t v reply place of =
    ap (λ (x : ClockState). timer_in (ticked_if (is_active v) x)) of.3 ∙ timer_ticked (is_active v) of.0 of.1 of.2 ∙ sym (ap timer_in of.3)
timer_of_place role per_second t v reply place of = refl

-- ---- where it stands then

place_ticked : (b : Bool) (interval shift ticks : ℕ) → (n : ℕ) × (ticked_if b (S.Periodic interval shift ticks) ≡ S.Periodic interval shift n)
place_ticked true interval shift ticks = (ticks + 1, refl)
place_ticked false interval shift ticks = (ticks, refl)

countdown_ticked : (b : Bool) (armed : Option ℕ) → (o : Option ℕ) × (ticked_if b (S.Countdown armed) ≡ S.Countdown o)
countdown_ticked true armed = (None, refl)
countdown_ticked false armed = (armed, refl)

countdown_rearmed : (per_second t : ℕ) (told : Interval) (armed : Option ℕ) → (o : Option ℕ) × (rearmed per_second t told (S.Countdown armed) ≡ S.Countdown o)
countdown_rearmed per_second t NotYetKnown armed = (None, refl)
countdown_rearmed per_second t (Unchanged f) armed = (armed, refl)
countdown_rearmed per_second t (Changed f) armed = (option_map (λ counts. t + counts) (counts_of f per_second), refl)

changing_after : (b : Bool) (per_second t : ℕ) (told : Interval) (armed : Option ℕ) → (o : Option ℕ) × ((if b then armed_anew per_second t told else S.Countdown armed) ≡ S.Countdown o)
changing_after true per_second t told armed = (option_map (λ counts. t + counts) (counts_told per_second told), refl)
changing_after false per_second t told armed = (armed, refl)

pub place_of_after : (role : Role) (per_second t : ℕ) (v : Option ℤ) (told : Interval) (place : ClockState) → IsPlaceOf role place → IsPlaceOf role (place_after role per_second t v told place)
place_of_after (TimeClock Countdown) per_second t v told place of =
    let ticked = countdown_ticked (is_active v) of.0 in
    let after = countdown_rearmed per_second t told ticked.0 in
    (after.0, ap (λ (x : ClockState). rearmed per_second t told (ticked_if (is_active v) x)) of.1 ∙ ap (rearmed per_second t told) ticked.1 ∙ after.1)
place_of_after (TimeClock Changing) per_second t v told place of =
    let after = changing_after (is_active v) per_second t told of.0 in
    (after.0, ap (λ (x : ClockState). if is_active v then armed_anew per_second t told else x) of.1 ∙ after.1)
place_of_after (TimeClock (Periodic interval shift)) per_second t v told place of =
    let ticked = place_ticked (is_active v) interval shift of.0 in (ticked.0, ap (ticked_if (is_active v)) of.1 ∙ ticked.1)
place_of_after (TimeClock Answered) per_second t v told place of =
    let ticked = place_ticked (is_active v) of.0 of.1 of.2 in (of.0, of.1, ticked.0, ap (ticked_if (is_active v)) of.3 ∙ ticked.1, of.4)
place_of_after role per_second t v told place of = of

-- its next tick is after the point
next_periodic : (start t : ℕ) (is_first b : Bool) (interval shift ticks : ℕ) → 0 < interval → IsNextFrom start t is_first (S.Periodic interval shift ticks) → b ≡ (start + shift + ticks * interval == t) →
    IsNextFrom start t false (ticked_if b (S.Periodic interval shift ticks))
next_periodic start t true true interval shift ticks above next due =
    let here : start + shift + ticks * interval ≡ t = eqb-true (start + shift + ticks * interval) t (sym due) in (
      omega (arith, here, above),
      λ k lt. by k lt here,
    )
  where
    by : (k : ℕ) → k < ticks + 1 → start + shift + ticks * interval ≡ t → start + shift + k * interval ≤ t
    by k lt here = (elim (cases_lt k ticks) as (λ c. start + shift + k * interval ≤ t) [
      | inl below ↦ omega (arith, next.1 k below)
      | inr past ↦ (let e : k ≡ ticks = omega (arith, lt, past) in let f = ap (λ n. n * interval) e in omega (arith, f, here))
    ])
next_periodic start t true false interval shift ticks above next due = (
  (let ne : start + shift + ticks * interval ≡ t → ⊥ = (λ e. true_false (sym (eq-eqb (start + shift + ticks * interval) t e) ∙ sym due)) in let le = next.0 in below (start + shift + ticks * interval) t le ne),
  λ k lt. let b = next.1 k lt in omega (arith, b),
)
  where
    below : (a b : ℕ) → b ≤ a → (a ≡ b → ⊥) → b < a
    below a b le ne = omega (arith, le, ne)
next_periodic start t false true interval shift ticks above next due =
    let here : start + shift + ticks * interval ≡ t = eqb-true (start + shift + ticks * interval) t (sym due) in
    let le = next.0 in
    absurd (omega (arith, here, le))
next_periodic start t false false interval shift ticks above next due = next

next_countdown : (start t : ℕ) (b : Bool) (armed : Option ℕ) → IfSome armed (λ point. t ≤ point) → IsNextFrom start t false (ticked_if b (S.Countdown armed))
next_countdown start t true armed next = tt
next_countdown start t false armed next = next

next_armed : (t : ℕ) (o : Option ℕ) → IfSome (option_map (λ counts. t + counts) o) (λ point. t ≤ point)
next_armed t None = tt
next_armed t (Some counts) = omega arith

next_rearmed : (per_second start t : ℕ) (told : Interval) (place : ClockState) → IsNextFrom start t false place → IsNextFrom start t false (rearmed per_second t told place)
next_rearmed per_second start t NotYetKnown place next = tt
next_rearmed per_second start t (Unchanged f) place next = next
next_rearmed per_second start t (Changed f) place next = next_armed t (counts_of f per_second)

next_anew : (per_second start t : ℕ) (told : Interval) → IsNextFrom start t false (armed_anew per_second t told)
next_anew per_second start t told = next_armed t (counts_told per_second told)

next_changing : (b : Bool) (per_second start t : ℕ) (told : Interval) (place : ClockState) → IsNextFrom start t false place → IsNextFrom start t false (if b then armed_anew per_second t told else place)
next_changing true per_second start t told place next = next_anew per_second start t told
next_changing false per_second start t told place next = next

next_first : (start t : ℕ) (is_first : Bool) (armed : Option ℕ) → IsNextFrom start t is_first (S.Countdown armed) → IfSome armed (λ point. t ≤ point)
next_first start t true armed next = next
next_first start t false armed next = next

next_unasked : (start t : ℕ) (place : ClockState) → place ≡ S.Unasked → IsNextFrom start t false place
next_unasked start t place is = subst (IsNextFrom start t false) (sym is) tt

-- a periodic Clock has a positive interval by its description
abbrev pub IsPositive : Role → Type 0
IsPositive (TimeClock (Periodic interval shift)) = 0 < interval
IsPositive role = Unit {0}

pub next_after : (role : Role) (per_second start t : ℕ) (is_first : Bool) (v : Option ℤ) (told : Interval) (place : ClockState) → IsPlaceOf role place → IsPositive role → IsNextFrom start t is_first place →
    (is_time_clock role ≡ true → is_active v ≡ is_due_in start t place) → IsNextFrom start t false (place_after role per_second t v told place)
next_after (TimeClock Countdown) per_second start t is_first v told place of positive next ticks =
    next_rearmed per_second start t told (ticked_if (is_active v) place)
    (subst (λ (x : ClockState). IsNextFrom start t false (ticked_if (is_active v) x)) (sym of.1)
    (next_countdown start t (is_active v) of.0 (next_first start t is_first of.0 (subst (IsNextFrom start t is_first) of.1 next))))
next_after (TimeClock Changing) per_second start t is_first v told place of positive next ticks =
    next_changing (is_active v) per_second start t told place
    (subst (λ (x : ClockState). IsNextFrom start t false x) (sym of.1) (next_first start t is_first of.0 (subst (IsNextFrom start t is_first) of.1 next)))
next_after (TimeClock (Periodic interval shift)) per_second start t is_first v told place of positive next ticks =
    subst (λ (x : ClockState). IsNextFrom start t false (ticked_if (is_active v) x)) (sym of.1)
    (next_periodic start t is_first (is_active v) interval shift of.0 positive (subst (IsNextFrom start t is_first) of.1 next) (ticks refl ∙ ap (is_due_in start t) of.1))
next_after (TimeClock Answered) per_second start t is_first v told place of positive next ticks =
    subst (λ (x : ClockState). IsNextFrom start t false (ticked_if (is_active v) x)) (sym of.3)
    (next_periodic start t is_first (is_active v) of.0 of.1 of.2 of.4 (subst (IsNextFrom start t is_first) of.3 next) (ticks refl ∙ ap (is_due_in start t) of.3))
next_after role per_second start t is_first v told place of positive next ticks = next_unasked start t place of

-- ---- whether it is armed for the point

unarmed_periodic : (t : ℕ) (b : Bool) (interval shift ticks : ℕ) → false ≡ is_armed_for t (timer_in (ticked_if b (S.Periodic interval shift ticks)))
unarmed_periodic t true interval shift ticks = refl
unarmed_periodic t false interval shift ticks = refl

unarmed_due : (start t : ℕ) (armed : Option ℕ) (b : Bool) → b ≡ is_due_in start t (S.Countdown armed) → false ≡ is_armed_for t (timer_in (ticked_if b (S.Countdown armed)))
unarmed_due start t armed true due = refl
unarmed_due start t None false due = refl
unarmed_due start t (Some point) false due = due

now_armed : (t : ℕ) (o : Option ℕ) → option_map_or (λ counts. counts == 0) o false ≡ is_armed_for t (timer_in (S.Countdown (option_map (λ counts. t + counts) o)))
now_armed t None = refl
now_armed t (Some counts) = same counts t
  where
    same : (n m : ℕ) → (n == 0) ≡ (m + n == m)
    same n m = (elim (cases_lt 0 n) as (λ c. (n == 0) ≡ (m + n == m)) [
      | inl above ↦ grind (arith, nat_tests)
      | inr none ↦ grind (arith, nat_tests)
    ])

armed_now : (per_second start t : ℕ) (told : Interval) (armed : Option ℕ) (b : Bool) → b ≡ is_due_in start t (S.Countdown armed) → arms_now per_second told ≡ is_armed_for t (timer_in (rearmed per_second t told (ticked_if b (S.Countdown armed))))
armed_now per_second start t NotYetKnown armed b due = refl
armed_now per_second start t (Unchanged f) armed b due = unarmed_due start t armed b due
armed_now per_second start t (Changed f) armed b due = now_armed t (counts_of f per_second)

-- a changing Clock that doesn't tick isn't armed for the point
unticked : (start t : ℕ) (b : Bool) (per_second : ℕ) (told : Interval) (armed : Option ℕ) → b ≡ false → b ≡ is_due_in start t (S.Countdown armed) → false ≡ is_armed_for t (timer_in (if b then armed_anew per_second t told else S.Countdown armed))
unticked start t true per_second told armed none due = absurd (true_false none)
unticked start t false per_second told None none due = refl
unticked start t false per_second told (Some point) none due = due

-- what is told where the port isn't asked, and where it is
armed_else : (role : Role) (per_second start t : ℕ) (v : Option ℤ) (told : Interval) (place : ClockState) → IsPlaceOf role place → (is_time_clock role ≡ true → is_active v ≡ is_due_in start t place) → is_asked_after role v ≡ false → false ≡ is_armed_for t (timer_in (place_after role per_second t v told place))
armed_else (TimeClock Countdown) per_second start t v told place of ticks none = absurd (true_false none)
armed_else (TimeClock Changing) per_second start t v told place of ticks none =
    unticked start t (is_active v) per_second told of.0 none (ticks refl ∙ ap (is_due_in start t) of.1)
    ∙ sym (ap (λ (x : ClockState). is_armed_for t (timer_in (if is_active v then armed_anew per_second t told else x))) of.1)
armed_else (TimeClock (Periodic interval shift)) per_second start t v told place of ticks none =
    unarmed_periodic t (is_active v) interval shift of.0 ∙ sym (ap (λ (x : ClockState). is_armed_for t (timer_in (ticked_if (is_active v) x))) of.1)
armed_else (TimeClock Answered) per_second start t v told place of ticks none =
    unarmed_periodic t (is_active v) of.0 of.1 of.2 ∙ sym (ap (λ (x : ClockState). is_armed_for t (timer_in (ticked_if (is_active v) x))) of.3)
armed_else role per_second start t v told place of ticks none = sym (ap (λ (x : ClockState). is_armed_for t (timer_in x)) of)

armed_down : (per_second start t : ℕ) (v : Option ℤ) (told : Interval) (place : ClockState) → IsPlaceOf (TimeClock Countdown) place → is_active v ≡ is_due_in start t place →
    arms_now per_second told ≡ is_armed_for t (timer_in (rearmed per_second t told (ticked_if (is_active v) place)))
armed_down per_second start t v told place of ticks =
    armed_now per_second start t told of.0 (is_active v) (ticks ∙ ap (is_due_in start t) of.1)
    ∙ sym (ap (λ (x : ClockState). is_armed_for t (timer_in (rearmed per_second t told (ticked_if (is_active v) x)))) of.1)

-- ---- what one port does

-- the same place is the same table
pub with_same : (table : Timetable) (p : ℕ) (place : ClockState) → slice_get table.clocks p ≡ Some place → table ≡ with_clock table p place
with_same table p place is = sym (ap (λ (cs : List ClockState). record table { clocks = cs }) (set_same table.clocks p place is))

set_twice : {X : Type 0} (xs : List X) (k : ℕ) (x y : X) → set (set xs k x) k y ≡ set xs k y
set_twice [] k x y = refl
set_twice (z ∷ xs) zero x y = refl
set_twice (z ∷ xs) (suc k) x y = ap (λ zs. z ∷ zs) (set_twice xs k x y)

pub with_twice : (table : Timetable) (p : ℕ) (a b : ClockState) → with_clock (with_clock table p a) p b ≡ with_clock table p b
with_twice table p a b = ap (λ (cs : List ClockState). record table { clocks = cs }) (set_twice table.clocks p a b)

-- a table in which one place is another
module _ (table next : Timetable) (k : ℕ) (place : ClockState) (within : k < length table.clocks) (goes : next ≡ with_clock table k place) where
  clocks_are : next.clocks ≡ set table.clocks k place
  clocks_are = ap (λ (x : Timetable). x.clocks) goes

  pub many_now : length next.clocks ≡ length table.clocks
  many_now = ap length clocks_are ∙ length-set table.clocks k place

  pub place_now : slice_get next.clocks k ≡ Some place
  place_now = ap (λ xs. slice_get xs k) clocks_are ∙ set_here table.clocks k place within

  pub beside_now : (q : ℕ) → (q ≡ k → ⊥) → slice_get next.clocks q ≡ slice_get table.clocks q
  beside_now q other = ap (λ xs. slice_get xs q) clocks_are ∙ set_beside table.clocks k place q other

  pub timers_now : take (k + 1) (timers_in next) ≡ take k (timers_in table) ++ timer_in place ∷ []
  timers_now =
      ap (take (k + 1)) (ap (map timer_in) clocks_are ∙ map-set timer_in table.clocks k place)
      ∙ take_more_set (timers_in table) k (timer_in place) (let e = length-map table.clocks timer_in in omega (arith, e, within))

pub there_now : (table next : Timetable) (p : ℕ) (old place : ClockState) → slice_get table.clocks p ≡ Some old → next ≡ with_clock table p place → slice_get next.clocks p ≡ Some place
there_now table next p old place is goes = place_now table next p place (slice_get_within table.clocks p old is) goes

module _ (table : Timetable) (role : Role) (per_second t p : ℕ) (v : Option ℤ) (told : Interval) (from : GoesFrom table role t p v) where
  own_place : (place : ClockState) → slice_get table.clocks p ≡ Some place → from.place ≡ place
  own_place place is = same_Some _ _ (sym from.is ∙ is)

  -- a port that is no time-based Clock
  pub goes_else : is_time_clock role ≡ false → IsAfter role per_second t p v told table table × IsArmed t p table false
  goes_else none = (
    λ place is. with_same table p place is ∙ ap (with_clock table p) (sym (by role none place)),
    λ place is. subst (λ (x : ClockState). false ≡ is_armed_for t (timer_in x)) (own_place place is) (unarmed role none from.of),
  )
    where
      by : (r : Role) → is_time_clock r ≡ false → (place : ClockState) → place_after r per_second t v told place ≡ place
      by (TimeClock timing) h place = absurd (true_false h)
      by r h place = refl

      unarmed : (r : Role) → is_time_clock r ≡ false → IsPlaceOf r from.place → false ≡ is_armed_for t (timer_in from.place)
      unarmed (TimeClock timing) h of = absurd (true_false h)
      unarmed r h of = sym (ap (λ (x : ClockState). is_armed_for t (timer_in x)) of)

  module _ (clock : is_time_clock role ≡ true) where
    -- it ticks where it is due
    pub ticks_next : is_active v ≡ true → HasNext table p
    ticks_next active = due_ticks table t p from.place from.is from.within (sym (from.ticks clock) ∙ active)

    module _ (mid : Timetable) (ticked : (place : ClockState) → slice_get table.clocks p ≡ Some place → mid ≡ with_clock table p (ticked_if (is_active v) place)) where
      mid_is : mid ≡ with_clock table p (ticked_if (is_active v) from.place)
      mid_is = ticked from.place from.is

      mid_there : slice_get mid.clocks p ≡ Some (ticked_if (is_active v) from.place)
      mid_there = there_now table mid p from.place _ from.is mid_is

      -- one that isn't asked
      pub goes_unasked : is_asked_after role v ≡ false → IsAfter role per_second t p v told table mid × IsArmed t p mid false
      goes_unasked none = (
        λ place is. ticked place is ∙ ap (with_clock table p) (sym (by role clock none place)),
        λ place is.
            let own : ticked_if (is_active v) from.place ≡ place = same_Some _ _ (sym mid_there ∙ is) in
            armed_else role per_second table.start t v told from.place from.of from.ticks none ∙ ap (λ (x : ClockState). is_armed_for t (timer_in x)) (by role clock none from.place ∙ own),
      )
        where
          by : (r : Role) → is_time_clock r ≡ true → is_asked_after r v ≡ false → (place : ClockState) → place_after r per_second t v told place ≡ ticked_if (is_active v) place
          by (TimeClock Countdown) h k place = absurd (true_false k)
          by (TimeClock Changing) h k place = unticked_place (is_active v) k
            where
              unticked_place : (b : Bool) → b ≡ false → (if b then armed_anew per_second t told else place) ≡ ticked_if b place
              unticked_place true e = absurd (true_false e)
              unticked_place false e = refl
          by (TimeClock (Periodic interval shift)) h k place = refl
          by (TimeClock Answered) h k place = refl
          by r h k place = absurd (true_false (sym h))

      -- one that counts down
      module _ (down : role ≡ TimeClock Countdown) where
        of_countdown : IsPlaceOf (TimeClock Countdown) from.place
        of_countdown = subst (λ (r : Role). IsPlaceOf r from.place) down from.of

        pub counts : IsCountdown mid p
        counts = let ticked_place = countdown_ticked (is_active v) of_countdown.0 in (ticked_place.0, mid_there ∙ ap (λ (x : ClockState). Some (ticked_if (is_active v) x)) of_countdown.1 ∙ ap Some ticked_place.1)

        pub goes_countdown : (next : Timetable) → ((place : ClockState) → slice_get mid.clocks p ≡ Some place → next ≡ with_clock mid p (rearmed per_second t told place)) → (now : Bool) → now ≡ arms_now per_second told →
            IsAfter role per_second t p v told table next × IsArmed t p next now
        goes_countdown next rearms now now_is =
            let next_is = rearms (ticked_if (is_active v) from.place) mid_there in (
              λ place is.
                  let own = own_place place is in
                  next_is ∙ ap (λ (x : Timetable). with_clock x p (rearmed per_second t told (ticked_if (is_active v) from.place))) mid_is
                  ∙ with_twice table p (ticked_if (is_active v) from.place) (rearmed per_second t told (ticked_if (is_active v) from.place))
                  ∙ ap (λ (x : ClockState). with_clock table p (rearmed per_second t told (ticked_if (is_active v) x))) own
                  ∙ sym (ap (λ (r : Role). with_clock table p (place_after r per_second t v told place)) down),
              λ place is.
                  let own : rearmed per_second t told (ticked_if (is_active v) from.place) ≡ place = same_Some _ _ (sym (there_now mid next p _ _ mid_there next_is) ∙ is) in
                  now_is ∙ armed_down per_second table.start t v told from.place of_countdown (from.ticks clock) ∙ ap (λ (x : ClockState). is_armed_for t (timer_in x)) own,
            )

      -- a changing Clock that ticks
      module _ (changing : role ≡ TimeClock Changing) (active : is_active v ≡ true) where
        of_changing : IsPlaceOf (TimeClock Changing) from.place
        of_changing = subst (λ (r : Role). IsPlaceOf r from.place) changing from.of

        pub is_armable : IsCountdown mid p
        is_armable = let ticked_place = countdown_ticked (is_active v) of_changing.0 in (ticked_place.0, mid_there ∙ ap (λ (x : ClockState). Some (ticked_if (is_active v) x)) of_changing.1 ∙ ap Some ticked_place.1)

        pub goes_changing : (next : Timetable) → next ≡ with_clock mid p (armed_anew per_second t told) → (now : Bool) → now ≡ has_no_count per_second told → IsAfter role per_second t p v told table next × IsArmed t p next now
        goes_changing next next_is now now_is = (
          λ place is.
              next_is ∙ ap (λ (x : Timetable). with_clock x p (armed_anew per_second t told)) mid_is
              ∙ with_twice table p (ticked_if (is_active v) from.place) (armed_anew per_second t told)
              ∙ sym (ap (λ (r : Role). with_clock table p (place_after r per_second t v told place)) changing ∙ ap (λ b. with_clock table p (if b then armed_anew per_second t told else place)) active),
          λ place is.
              let own : armed_anew per_second t told ≡ place = same_Some _ _ (sym (there_now mid next p _ _ mid_there next_is) ∙ is) in
              now_is ∙ now_armed t (counts_told per_second told) ∙ ap (λ (x : ClockState). is_armed_for t (timer_in x)) own,
        )
