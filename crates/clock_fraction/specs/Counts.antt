-- Fractions of seconds in counts (FMI 3.0, Clocks).
use Rattle.std.specs.Prelude.{◌≡◌, ℕ, ◌*◌, ◌/◌, ◌%◌, ◌<◌, ◌==◌, ◌&&◌, not, Option, Some, None, if◌then◌else◌}
use Rattle.clock_fraction.specs.declared.fraction.Fraction.{Fraction}

-- `counter / resolution` seconds are this many counts, of which a second has `per_second`
pub record IsCounts (fraction : Fraction) (per_second counts : ℕ) : Type 0 where
  pub known : 0 < fraction.resolution
  pub whole : counts * fraction.resolution ≡ per_second * fraction.counter

-- the same as a function: none where the resolution is 0 or the counts aren't whole
abbrev pub counts_of : Fraction → ℕ → Option ℕ
counts_of fraction per_second =
    if not (fraction.resolution == 0) && per_second * fraction.counter % fraction.resolution == 0 then Some (per_second * fraction.counter / fraction.resolution)
    else None

-- a whole number of counts, of which a second has so many
abbrev pub IsInCounts : ℕ → Fraction → Type 0
IsInCounts per_second f = (counts : ℕ) × IsCounts f per_second counts
