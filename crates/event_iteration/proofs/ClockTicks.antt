-- Which Clocks of a schedule are due at a point: those whose timers are.
use Rattle.std.proofs.Common.{◌≡◌, ℕ, zero, suc, ◌+◌, ◌*◌, ◌<◌, ◌≤◌, Bool, true, false, List, [], ◌∷◌, Some, None, refl, sym, ap, ◌∙◌, subst, arith, length, map, inl, inr, mul-le-mul_right}
use Rattle.std.specs.Prelude.{◌↔◌, ◌==◌, IsSomeAnd, IsTrue, slice_get}
use Rattle.std.specs.Option.{option_map_or}
use Rattle.std.proofs.lemmas.Bool.{cases_lt, eq-eqb, eqb-true}
use Rattle.std.proofs.lemmas.Option.{same_Some, slice_get_within}
use Rattle.system_model.specs.declared.system.Port.{Port}
use Rattle.system_model.specs.declared.system.Role.{Role}
use Rattle.system_model.specs.declared.system.Role.TheVariants.{Input, Output, ClockInput, ClockOutput, TimeClock}
use Rattle.system_model.specs.declared.system.System.{System}
use Rattle.system_model.proofs.CallerLemmas.{all_at, true_false}
use Rattle.tick_schedule.specs.declared.clock.ClockState.{ClockState}
use Rattle.tick_schedule.specs.declared.clock.ClockState.TheVariants as S
use Rattle.tick_schedule.specs.Timetable.{IsToTick, TicksAt, Timetable}
use Rattle.run_model.specs.Equations.{timer_of}
use Rattle.run_model.specs.Timers.{IsDue}
use Rattle.event_iteration.specs.Clocks.{AreTicks, IsNextFrom, IsPlaceOf, StandsAt, is_due_at, is_due_in, timer_in, timers_in}
use Rattle.event_iteration.specs.Intervals.{is_time_clock}
use Rattle.event_iteration.proofs.Fmus.{got}

-- ---- one Clock

-- it is due where it has a tick to make at the point
due_to_tick : (start t : ℕ) (is_first : Bool) (place : ClockState) → IsNextFrom start t is_first place → IsToTick start place t → is_due_in start t place ≡ true
due_to_tick start t is_first S.Unasked next tick = absurd tick
due_to_tick start t true (S.Periodic interval shift ticks) next tick =
    eq-eqb (start + shift + ticks * interval) t (let a = next.0 in let b = tick.1 in omega (arith, a, b))
due_to_tick start t false (S.Periodic interval shift ticks) next tick = absurd (let a = next.0 in let b = tick.1 in omega (arith, a, b))
due_to_tick start t is_first (S.Countdown None) next tick = absurd (cc)
due_to_tick start t is_first (S.Countdown (Some armed)) next tick = eq-eqb armed t (same_Some _ _ tick)

pub tick_due : (start t : ℕ) (place : ClockState) → is_due_in start t place ≡ true → IsToTick start place t
tick_due start t S.Unasked due = true_false (sym due)
tick_due start t (S.Periodic interval shift ticks) due =
    let at : start + shift + ticks * interval ≡ t = eqb-true _ t due in ((ticks, sym at), omega (arith, at))
tick_due start t (S.Countdown None) due = absurd (true_false (sym due))
tick_due start t (S.Countdown (Some armed)) due = ap Some (eqb-true armed t due)

-- it is due where its timer is, by the number of the instant at the point
due_timer : (start t n : ℕ) (is_first : Bool) (place : ClockState) → (n == 0) ≡ is_first → IsNextFrom start t is_first place → is_due_in start t place ≡ true → IsDue start (timer_in place) t n
due_timer start t n is_first S.Unasked count next due = true_false (sym due)
due_timer start t n true (S.Periodic interval shift ticks) count next due = (eqb-true n 0 count, (ticks, sym (eqb-true _ t due)))
due_timer start t n false (S.Periodic interval shift ticks) count next due =
    absurd (let at : start + shift + ticks * interval ≡ t = eqb-true _ t due in let a = next.0 in omega (arith, at, a))
due_timer start t n is_first (S.Countdown None) count next due = true_false (sym due)
due_timer start t n is_first (S.Countdown (Some armed)) count next due = sym (eqb-true armed t due)

timer_due : (start t n : ℕ) (is_first : Bool) (place : ClockState) → (n == 0) ≡ is_first → IsNextFrom start t is_first place → IsDue start (timer_in place) t n → is_due_in start t place ≡ true
timer_due start t n is_first S.Unasked count next due = absurd due
timer_due start t n true (S.Periodic interval shift ticks) count next (first, (k, at)) =
    (elim (cases_lt k ticks) as (λ c. (start + shift + ticks * interval == t) ≡ true) [
      | inl less ↦ absurd (let early : start + shift + k * interval < t = next.1 k less in omega (arith, early, at))
      | inr most ↦ eq-eqb (start + shift + ticks * interval) t
          (let more : ticks * interval ≤ k * interval = mul-le-mul_right interval most in let a = next.0 in omega (arith, more, a, at))
    ])
timer_due start t n false (S.Periodic interval shift ticks) count next (first, tick) = absurd (true_false (sym (eq-eqb n 0 first) ∙ count))
timer_due start t n is_first (S.Countdown None) count next due = absurd due
timer_due start t n is_first (S.Countdown (Some armed)) count next due = eq-eqb armed t (sym due)

-- ---- the schedule

timer_at : (clocks : List ClockState) (p : ℕ) (place : ClockState) → slice_get clocks p ≡ Some place → timer_of (map timer_in clocks) p ≡ timer_in place
timer_at [] p place is = absurd (cc)
timer_at (x ∷ clocks) zero place is = ap timer_in (same_Some _ _ is)
timer_at (x ∷ clocks) (suc p) place is = timer_at clocks p place is

due_at : (table : Timetable) (t p : ℕ) (place : ClockState) → slice_get table.clocks p ≡ Some place → is_due_at table t p ≡ is_due_in table.start t place
due_at table t p place is = ap (λ o. option_map_or (is_due_in table.start t) o false) is

module _ (system : System) (t : ℕ) (is_first : Bool) (table : Timetable) (stands : StandsAt system t is_first table) where
  next_at : (p : ℕ) (place : ClockState) → slice_get table.clocks p ≡ Some place → IsNextFrom table.start t is_first place
  next_at p place is = all_at (IsNextFrom table.start t is_first) table.clocks p place stands.next is

  -- what the schedule tells of a Clock
  told_due : (p : ℕ) (place : ClockState) → slice_get table.clocks p ≡ Some place → (b : Bool) → (IsTrue b ↔ TicksAt table p t) → b ≡ is_due_in table.start t place
  told_due p place is true told =
      let ticks = told.0 refl in
      sym (due_to_tick table.start t is_first place (next_at p place is) (subst (λ o. IsSomeAnd o (λ state. IsToTick table.start state t)) is ticks.1))
  told_due p place is false told = sym (not_due (is_due_in table.start t place) refl)
    where
      not_due : (d : Bool) → is_due_in table.start t place ≡ d → is_due_in table.start t place ≡ false
      not_due false e = e
      not_due true e =
          absurd (true_false (sym (told.1 (stands.within, subst (λ o. IsSomeAnd o (λ state. IsToTick table.start state t)) (sym is) (tick_due table.start t place e)))))

  pub due_is : (p : ℕ) → p < length table.clocks → (b : Bool) → (IsTrue b ↔ TicksAt table p t) → b ≡ is_due_at table t p
  due_is p within b told = let found = got table.clocks p within in told_due p found.0 found.1 b told ∙ sym (due_at table t p found.0 found.1)

  -- a port that is no time-based Clock never is
  pub never_due : (p : ℕ) (port : Port) → slice_get system.ports p ≡ Some port → is_time_clock port.role ≡ false → is_due_at table t p ≡ false
  never_due p port is plain =
      let within : p < length table.clocks = (let few = stands.len in let w = slice_get_within system.ports p port is in omega (arith, few, w)) in
      let found = got table.clocks p within in
      due_at table t p found.0 found.1 ∙ by port.role found.0 (stands.places p port found.0 is found.1) plain
    where
      by : (role : Role) (place : ClockState) → IsPlaceOf role place → is_time_clock role ≡ false → is_due_in table.start t place ≡ false
      by (TimeClock timing) place at clock = absurd (true_false clock)
      by (Input feed) place at clock = ap (is_due_in table.start t) at
      by Output place at clock = ap (is_due_in table.start t) at
      by (ClockInput feed) place at clock = ap (is_due_in table.start t) at
      by ClockOutput place at clock = ap (is_due_in table.start t) at

  -- what is due are the ticks of the timers
  pub are_ticks : (n : ℕ) → (n == 0) ≡ is_first → AreTicks system table.start (timers_in table) t n (is_due_at table t)
  are_ticks n count p port timing is_port time =
      let within : p < length table.clocks = (let few = stands.len in let w = slice_get_within system.ports p port is_port in omega (arith, few, w)) in
      let found = got table.clocks p within in
      let place = found.0 in
      let is = found.1 in (
        λ due. subst (λ x. IsDue table.start x t n) (sym (timer_at table.clocks p place is))
            (due_timer table.start t n is_first place count (next_at p place is) (sym (due_at table t p place is) ∙ due)),
        λ due. due_at table t p place is
            ∙ timer_due table.start t n is_first place count (next_at p place is) (subst (λ x. IsDue table.start x t n) (timer_at table.clocks p place is) due),
      )
