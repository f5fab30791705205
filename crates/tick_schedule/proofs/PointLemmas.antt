-- The next point of a Clock is the least tick that it still has to make.
use Rattle.std.proofs.Common.{◌≡◌, ◌↔◌, ℕ, ◌+◌, ◌-◌, ◌*◌, ◌/◌, ◌%◌, ◌^◌, ◌<◌, ◌≤◌, inl, inr, Option, Some, None, IfSome, ap, sym, arith, mul-le-mul_left}
use Rattle.std.specs.Prelude.{if◌then◌else◌}
use Rattle.std.proofs.lemmas.Bool.{cases_lt, le-ltb, lt-ltb}
use Rattle.std.proofs.lemmas.Nat.{div-add-mod', mod_below}
use Rattle.std.proofs.Math.Nat.{mul-le-mul_right}
use Rattle.clock_fraction.specs.Ticks.{IsTick}
use Rattle.std.proofs.lemmas.Option.{same_Some}
use Rattle.std.proofs.lemmas.Bool.Decides.{nat_tests}
use Rattle.value_types.specs.declared.shape.IntervalVariability.{IntervalVariability}
use Rattle.value_types.specs.declared.shape.IntervalVariability.TheVariants.{Constant, Fixed, Tunable, Changing, Countdown as IsCountdownClock, Triggered}
use Rattle.tick_schedule.specs.declared.clock.ClockState.{ClockState}
use Rattle.tick_schedule.specs.declared.clock.ClockState.TheVariants.{Unasked, Periodic, Countdown}
use Rattle.tick_schedule.specs.Points.{HasCount, IsNear, IsSoundState, point_of, up_to}
use Rattle.tick_schedule.specs.Timetable.{IsToTick, after_tick, first_by, known_state, ticks_up_to}

-- a point up to the stop is that itself
pub up_to_within : (stop point : ℕ) → point ≤ stop → up_to stop point ≡ point
up_to_within stop point within = grind (arith, nat_tests)

-- what is up to the stop is no other point
pub up_to_same : (stop point p : ℕ) → stop ≤ 2 ^ 62 → up_to stop point ≡ p → p ≤ stop → point ≡ p
up_to_same stop point p near is within = grind (arith, nat_tests)

-- at its next point a Clock ticks
pub ticks_at_point : (start stop : ℕ) (state : ClockState) (p : ℕ) → stop ≤ 2 ^ 62 → point_of start stop state ≡ p → p ≤ stop → IsToTick start state p
ticks_at_point start stop Unasked p near is within = absurd (omega arith)
ticks_at_point start stop (Periodic interval shift ticks) p near is within =
    let same : start + shift + ticks * interval ≡ p = up_to_same stop (start + shift + ticks * interval) p near is within in
    ((ticks, sym same), omega arith)
ticks_at_point start stop (Countdown (Some point)) p near is within = ap Some (up_to_same stop point p near is within)
ticks_at_point start stop (Countdown None) p near is within = absurd (omega arith)

-- no tick that it still has to make is below its next point
pub point_below_tick : (start stop : ℕ) (state : ClockState) (t : ℕ) → IsToTick start state t → t ≤ stop → point_of start stop state ≤ t
point_below_tick start stop Unasked t ticks within = absurd ticks
point_below_tick start stop (Periodic interval shift ticks) t (tick, later) within =
    let same : up_to stop (start + shift + ticks * interval) ≡ start + shift + ticks * interval = up_to_within stop (start + shift + ticks * interval) (omega arith) in
    omega arith
point_below_tick start stop (Countdown (Some point)) t ticks within =
    let here : point ≡ t = same_Some point t ticks in
    let same : up_to stop point ≡ point = up_to_within stop point (omega arith) in
    omega arith
point_below_tick start stop (Countdown None) t ticks within = cc

-- a Clock that ticks up to the stop can be counted on, and its next tick is near
pub can_count : (start stop : ℕ) (state : ClockState) (t : ℕ) → stop ≤ 2 ^ 62 → IsSoundState state → IsToTick start state t → t ≤ stop → HasCount state
can_count start stop Unasked t near sound ticks within = absurd ticks
can_count start stop (Periodic interval shift ticks) t near sound (tick, later) within =
    let each : 1 ≤ interval = omega (arith, sound.0) in
    let many : ticks * 1 ≤ ticks * interval = mul-le-mul_left ticks each in
    omega arith
can_count start stop (Countdown armed) t near sound ticks within = tt

pub is_near_after : (start stop : ℕ) (state : ClockState) (t : ℕ) → stop ≤ 2 ^ 62 → IsSoundState state → IsToTick start state t → t ≤ stop → IsNear (after_tick state)
is_near_after start stop Unasked t near sound ticks within = tt
is_near_after start stop (Periodic interval shift ticks) t near sound (tick, later) within =
    (sound.2, omega (arith, sound.1))
is_near_after start stop (Countdown armed) t near sound ticks within = tt

pub is_sound_after : (state : ClockState) → IsSoundState state → IsSoundState (after_tick state)
is_sound_after Unasked sound = tt
is_sound_after (Periodic interval shift ticks) sound = sound
is_sound_after (Countdown armed) sound = tt

-- a Clock before the first instant
pub sound_known : (interval shift : Option ℕ) → IfSome interval (λ i. (0 < i) × (i ≤ 2 ^ 126)) → IfSome shift (λ s. s ≤ 2 ^ 126) → IsSoundState (known_state interval shift) × IsNear (known_state interval shift)
sound_known (Some interval) (Some shift) i s = ((i.0, i.1, s), (s, omega arith))
sound_known (Some interval) None i s = (tt, tt)
sound_known None shift i s = (tt, tt)

pub sound_first : (variability : IntervalVariability) (interval shift : Option ℕ) → IfSome interval (λ i. (0 < i) × (i ≤ 2 ^ 126)) → IfSome shift (λ s. s ≤ 2 ^ 126) → IsSoundState (first_by variability interval shift) × IsNear (first_by variability interval shift)
sound_first Constant interval shift i s = sound_known interval shift i s
sound_first Fixed interval shift i s = sound_known interval shift i s
sound_first Tunable interval shift i s = sound_known interval shift i s
sound_first Changing interval shift i s = (tt, tt)
sound_first IsCountdownClock interval shift i s = (tt, tt)
sound_first Triggered interval shift i s = sound_known interval shift i s

-- ---- after a point

module _ (start shift interval t u : ℕ) (moves : 0 < interval) where
  abbrev first : ℕ
  first = start + shift

  abbrev count : ℕ
  count = ticks_up_to start shift interval t

  -- the tick that comes next is above the point
  next_above : t < first + count * interval
  next_above = (elim (cases_lt t first) as (λ c. t < first + count * interval) [
    | inl early ↦
        let none : count ≡ 0 = ap (λ b. if b then 0 else (t - first) / interval + 1) (lt-ltb t first early) in
        omega (arith, early, none)
    | inr late ↦
        let q = (t - first) / interval in
        let some : count ≡ q + 1 = ap (λ b. if b then 0 else (t - first) / interval + 1) (le-ltb t first late) in
        let parts : q * interval + (t - first) % interval ≡ t - first = div-add-mod' (t - first) interval in
        let left : (t - first) % interval < interval = mod_below (t - first) interval moves in
        let more : (q + 1) * interval ≡ q * interval + interval = grind arith in
        let is : count * interval ≡ (q + 1) * interval = ap (λ n. n * interval) some in
        omega (arith, late, parts, left, more, is)
  ])

  -- a tick above the point isn't among those before
  none_between : (k : ℕ) → u ≡ first + k * interval → t < u → first + count * interval ≤ u
  none_between k is above = (elim (cases_lt t first) as (λ c. first + count * interval ≤ u) [
    | inl early ↦
        let none : count ≡ 0 = ap (λ b. if b then 0 else (t - first) / interval + 1) (lt-ltb t first early) in
        let zero_is : count * interval ≡ 0 * interval = ap (λ n. n * interval) none in
        omega (arith, is, zero_is)
    | inr late ↦
        let q = (t - first) / interval in
        let some : count ≡ q + 1 = ap (λ b. if b then 0 else (t - first) / interval + 1) (le-ltb t first late) in
        let parts : q * interval + (t - first) % interval ≡ t - first = div-add-mod' (t - first) interval in
        let is_count : count * interval ≡ (q + 1) * interval = ap (λ n. n * interval) some in
        (elim (cases_lt q k) as (λ c. first + count * interval ≤ u) [
          | inl more ↦ let le : (q + 1) * interval ≤ k * interval = mul-le-mul_right interval (let l : q + 1 ≤ k = omega (arith, more) in l) in omega (arith, is, is_count, le)
          | inr fewer ↦ let le : k * interval ≤ q * interval = mul-le-mul_right interval fewer in absurd (omega (arith, is, above, late, parts, le))
        ])
  ])

  pub resumes_above : IsToTick start (Periodic interval shift count) u ↔ (IsTick start shift interval u × (t < u))
  resumes_above = (
    (λ h. (h.0, let next = next_above in omega (arith, next, h.1))),
    (λ h. (h.0, none_between h.0.0 h.0.1 h.1)),
  )
