-- Places that are still to be taken in an instant, kept as the next points of Clocks are: the point of a place is its own number.
use Rattle.std.specs.Prelude.{◌≡◌, ◌⊎◌, ℕ, ◌==◌, Bool, not, List, Option, Some, None, if◌then◌else◌}
use Rattle.std.specs.List.{slice_get}
use Rattle.tick_schedule.specs.Points.{past}

-- a place with this point is to be taken
abbrev pub is_to_take : ℕ → Bool
is_to_take point = not (point == past)

abbrev pub place_of : ℕ → Option ℕ
place_of point = if point == past then None else Some point

-- each point is none, or the number of its place
abbrev pub AreOwnNumbers : List ℕ → Type 0
AreOwnNumbers points =
    (place point : ℕ) → slice_get points place ≡ Some point → (point ≡ past) ⊎ (point ≡ place)
