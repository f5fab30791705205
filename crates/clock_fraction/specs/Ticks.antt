-- When a periodic clock ticks (FMI 3.0, Clocks: constant and fixed intervals).
use Rattle.std.specs.Prelude.{◌≡◌, ℕ, ◌+◌, ◌*◌}
use Rattle.clock_fraction.specs.declared.fraction.Fraction.{Fraction}

-- in seconds: `(t - start) / per_second` is the shift and some number of intervals
abbrev pub Ticks : ℕ → ℕ → Fraction → Fraction → ℕ → Type 0
Ticks per_second start shift interval t =
    (k : ℕ) × (t * (interval.resolution * shift.resolution)
    ≡ start * (interval.resolution * shift.resolution)
    + per_second * (shift.counter * interval.resolution + k * (interval.counter * shift.resolution)))

-- the number is a whole multiple
abbrev pub IsMultiple : ℕ → ℕ → Type 0
IsMultiple value unit = (k : ℕ) × (value ≡ k * unit)

-- in counts: `t` is the start, the shift and some number of intervals
abbrev pub IsTick : ℕ → ℕ → ℕ → ℕ → Type 0
IsTick start shift interval t = (k : ℕ) × (t ≡ start + shift + k * interval)
