-- How an order is found: nodes are put after what they need, and wait for what isn't put yet.
use Rattle.std.specs.Prelude.{◌≡◌, ◌⊎◌, ℕ, ◌+◌, ◌<◌, ◌≤◌, Bool, not, List, [], length, take, slice_index_or, Contains, count_by}
use Rattle.dependency_order.specs.Graph.{Needs, IsOnce, IsAfter}
use Rattle.dependency_order.specs.Paths.{IsMarked}

-- the order so far, its marks, how many of its needs each node has passed over, and who waits for each node
pub record IsSorting (graph : List (List ℕ)) (order : List ℕ) (placed : List Bool) (passed : List ℕ)
    (waiting : List (List ℕ)) : Type 0 where
  pub marks : length placed ≡ length graph
  pub places : length passed ≡ length graph
  pub lists : length waiting ≡ length graph
  pub count : length order + count_by not placed ≡ length graph
  pub marked : (p : ℕ) → IsMarked placed p → Contains order p
  pub listed : (p : ℕ) → Contains order p → IsMarked placed p
  pub once : IsOnce order
  pub after : IsAfter (Needs graph) order
  pub over : (p k : ℕ) → k < slice_index_or passed p 0 → k < length (slice_index_or graph p []) →
      IsMarked placed (slice_index_or (slice_index_or graph p []) k 0)
  pub waits : (q p : ℕ) → Contains (slice_index_or waiting q []) p → p < length graph

-- the node is placed, or waits for one that it needs and that isn't among the first nodes of the order
abbrev pub IsHeld : List (List ℕ) → List ℕ → List Bool → List (List ℕ) → ℕ → ℕ → Type 0
IsHeld graph order placed waiting at p =
    IsMarked placed p ⊎ ((q : ℕ) × Contains (slice_index_or waiting q []) p × Needs graph p q ×
    (Contains (take at order) q → ⊥))

-- what examining nodes leaves
pub record IsFurther (graph : List (List ℕ)) (order order' : List ℕ) (placed placed' : List Bool)
    (waiting waiting' : List (List ℕ)) : Type 0 where
  pub longer : length order ≤ length order'
  pub prefix : take (length order) order' ≡ order
  pub held : (at p : ℕ) → at ≤ length order → IsHeld graph order placed waiting at p →
      IsHeld graph order' placed' waiting' at p

-- every node that isn't placed needs one that isn't
abbrev pub IsStuck : List (List ℕ) → List Bool → Type 0
IsStuck graph placed =
    (p : ℕ) → p < length graph → IsMarked placed p ⊎
    ((q : ℕ) × Needs graph p q × (IsMarked placed q → ⊥))
