-- Lists of the elements of a sort, in document order.
use Rattle.std.specs.Prelude.{◌↔◌, ℕ, ◌<◌, List, length, slice_index, Contains}

-- each comes after those before it
abbrev pub IsRising : List ℕ → Type 0
IsRising nodes = (i j : ℕ) → i < j → j < length nodes → slice_index nodes i < slice_index nodes j

-- all elements of a sort, in document order
pub record IsListing (Sort : ℕ → Type 0) (nodes : List ℕ) : Type 0 where
  pub rising : IsRising nodes
  pub each : (k : ℕ) → Contains nodes k ↔ Sort k

-- the same of the elements below n
abbrev pub IsListingBelow : (ℕ → Type 0) → ℕ → List ℕ → Type 0
IsListingBelow Sort n nodes = IsListing (λ k. (k < n) × Sort k) nodes
