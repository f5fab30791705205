-- Ticks in counts are ticks in seconds.
use Rattle.std.proofs.Common.{◌≡◌, ℕ, ◌+◌, ◌-◌, ◌*◌, ◌/◌, ◌%◌, ◌<◌, ◌≤◌, sym, ap, ◌∙◌, arith}
use Rattle.std.proofs.Math.Nat.{mul-div_cancel, mul-pos, mul-mod_left}
use Rattle.std.proofs.lemmas.Nat.{div-add-mod'}
use Rattle.clock_fraction.specs.declared.fraction.Fraction.{Fraction}
use Rattle.clock_fraction.specs.Counts.{IsCounts}
use Rattle.clock_fraction.specs.Ticks.{IsTick, IsMultiple, Ticks}

-- two numbers with equal multiples are equal
mul-cancel_right : (a b n : ℕ) → 0 < n → a * n ≡ b * n → a ≡ b
mul-cancel_right a b n some same = sym (mul-div_cancel a some) ∙ ap (λ x. x / n) same ∙ mul-div_cancel b some

-- a number with no rest is a whole multiple
pub IsMultiple-from_rest : (value unit : ℕ) → value % unit ≡ 0 → IsMultiple value unit
IsMultiple-from_rest value unit no_rest = (value / unit, omega (arith, div-add-mod' value unit))

-- a whole multiple has no rest
pub rest-from_IsMultiple : (value unit : ℕ) → IsMultiple value unit → value % unit ≡ 0
rest-from_IsMultiple value unit (k, is_multiple) = ap (λ x. x % unit) is_multiple ∙ mul-mod_left k unit

-- the tick above a point that isn't below the first
pub next_tick : (start shift interval first point : ℕ) → first ≡ start + shift → first ≤ point → IsTick start shift interval (point - (point - first) % interval + interval)
next_tick start shift interval first point is_first later =
    let past = point - first in
    (past / interval + 1, omega (arith, div-add-mod' past interval))

-- the shift and k intervals, in units of both resolutions
in_units : (k c r s q per_second shift interval : ℕ) → interval * r ≡ per_second * c → shift * q ≡ per_second * s → per_second * (s * r + k * (c * q)) ≡ (shift + k * interval) * (r * q)
in_units k c r s q per_second shift interval is_interval is_shift =
    let shifted : shift * q * r ≡ per_second * s * r = ap (λ x. x * r) is_shift in
    let repeated : k * q * (interval * r) ≡ k * q * (per_second * c) = ap (λ x. k * q * x) is_interval in
    omega arith

-- a tick in seconds is one in counts
pub IsTick-from_Ticks : (per_second start t shift interval : ℕ) (after every : Fraction) → IsCounts after per_second shift → IsCounts every per_second interval → Ticks per_second start after every t → IsTick start shift interval t
IsTick-from_Ticks per_second start t shift interval after every is_shift is_interval ticks =
    let k = ticks.0 in
    let unit = every.resolution * after.resolution in
    let same : t * unit ≡ (start + shift + k * interval) * unit =
    ticks.1 ∙ ap (λ x. start * unit + x) (in_units k every.counter every.resolution after.counter after.resolution per_second shift interval is_interval.whole is_shift.whole) ∙ omega arith in
    (k, mul-cancel_right t (start + shift + k * interval) unit (mul-pos is_interval.known is_shift.known) same)

-- and the other way round
pub Ticks-from_IsTick : (per_second start t shift interval : ℕ) (after every : Fraction) → IsCounts after per_second shift → IsCounts every per_second interval → IsTick start shift interval t → Ticks per_second start after every t
Ticks-from_IsTick per_second start t shift interval after every is_shift is_interval tick =
    let k = tick.0 in
    let unit = every.resolution * after.resolution in
    (k, ap (λ x. x * unit) tick.1 ∙ omega (arith, in_units k every.counter every.resolution after.counter after.resolution per_second shift interval is_interval.whole is_shift.whole))
