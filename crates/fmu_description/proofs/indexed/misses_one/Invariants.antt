use Rattle.std.proofs.Common.{◌≡◌, ℕ, ◌<◌, None, get_or}
use Rattle.fmu_description.specs.Places.{found}
use Rattle.fmu_description.proofs.indexed.misses_one.Given as goal

abbrev pub invariant-loop-reference : goal.invariant-loop-reference
invariant-loop-reference l = (j : ℕ) → j < l.reference-index → found l.places (get_or l.references j 0) ≡ None → ⊥
