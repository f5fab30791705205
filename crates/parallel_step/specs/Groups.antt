-- Slots shared out among the groups of a round.
use Rattle.std.specs.Prelude.{ℕ, ◌+◌, ◌*◌, ◌≤◌}

-- so many slots go to these groups, where each takes this size or one more
abbrev pub IsEvenShare : ℕ → ℕ → ℕ → Type 0
IsEvenShare size groups slots = (size * groups ≤ slots) × (slots ≤ (size + 1) * groups)
