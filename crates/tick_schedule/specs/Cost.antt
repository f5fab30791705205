-- How many steps a move in a heap takes.
use Rattle.std.specs.Prelude.{ℕ, ◌+◌, ◌*◌, ◌^◌, ◌≤◌}

-- `d` is the greatest number with `2 ^ d ≤ 2 * n`
pub record IsDepth (n d : ℕ) : Type 0 where
  pub within : 2 ^ d ≤ 2 * n
  pub greatest : (e : ℕ) → 2 ^ e ≤ 2 * n → e ≤ d

-- among `n` Clocks there are at most `4 * d + 2` more steps, with the greatest `d` for which `2 ^ d ≤ 2 * n`
abbrev pub IsLogarithmic : ℕ → ℕ → ℕ → Type 0
IsLogarithmic n old new = (d : ℕ) → IsDepth n d → new ≤ old + (4 * d + 2)

-- some number of turns, each of at most `each` steps, where a turn halves what is left
pub record TakesTurns (each most old new : ℕ) : Type 0 where
  pub turns : ℕ
  pub few : 2 ^ turns ≤ most
  pub steps : new ≤ old + each * turns

-- turns on the way up, each of which halves the place
pub record ClimbsTurns (each most hole old new : ℕ) : Type 0 where
  pub turns : ℕ
  pub few : 2 ^ turns * (hole + 1) ≤ most
  pub steps : new ≤ old + each * turns
