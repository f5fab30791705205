-- The index by which a list's elements are found under their value references (FMI 3.0, 2.4.7.1: valueReference).
use Rattle.std.specs.Prelude.{◌≡◌, ℕ, List, Some, All, Contains}
use Rattle.std.specs.List.{slice_get}
use Rattle.std.specs.List.Sorted.{IsSorted}
use Rattle.std.specs.declared.cmp.Ordering.{Ordering}
use Rattle.std.specs.Ordering.{nat_cmp, ordering_then}

-- the order of pairs of numbers: by the first, and then by the second
abbrev pub pair_cmp : ℕ × ℕ → ℕ × ℕ → Ordering
pair_cmp a b = ordering_then (nat_cmp a.0 b.0) (nat_cmp a.1 b.1)

-- the entries are references with their places, all of them, in order
pub record IsIndex (references : List ℕ) (index : List (ℕ × ℕ)) : Type 0 where
  pub sorted : IsSorted pair_cmp index
  pub told : All (λ (e : ℕ × ℕ). slice_get references e.1 ≡ Some e.0) index
  pub whole : (place reference : ℕ) → slice_get references place ≡ Some reference → Contains index (reference, place)
