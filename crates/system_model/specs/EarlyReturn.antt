-- How many FMUs might return early from a step (FMI 3.0, 4.2.1.2: early return; the attribute mightReturnEarlyFromDoStep of CoSimulation).
use Rattle.std.specs.Prelude.{ℕ, List, count_by}
use Rattle.value_types.specs.declared.shape.Shape.{Shape}

-- how many of these might
abbrev pub early_count : List Shape → ℕ
early_count shapes = count_by (λ (s : Shape). s.might_return_early) shapes
