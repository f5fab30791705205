-- Which components might return early.
use Rattle.std.proofs.Common.{Bool}
use Rattle.value_types.specs.declared.shape.Shape.{Shape}

abbrev pub is_early : Shape → Bool
is_early s = s.might_return_early
