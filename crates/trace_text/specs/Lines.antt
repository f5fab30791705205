-- A line with its end.
use Rattle.std.specs.Prelude.{ℕ, List, [], ◌∷◌, ◌++◌}

abbrev pub ended : List ℕ → List ℕ
ended line = line ++ (10 ∷ [])
