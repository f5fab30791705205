-- What a search for an order answers.
use Rattle.std.specs.Prelude.{ℕ, List}
use Rattle.dependency_order.specs.declared.sorting.Found.{Found}
use Rattle.dependency_order.specs.declared.sorting.Found.TheVariants.{Order, Loop}
use Rattle.dependency_order.specs.Graph.{IsOrder, IsLoop, BeginsLeast}

-- each of these nodes needs the next, the last the first, and the least is told first; there is no order then
pub record IsLeastLoop (IsAmong : ℕ → Type 0) (NeedsOf : ℕ → ℕ → Type 0)
    (nodes : List ℕ) : Type 0 where
  pub loop : IsLoop NeedsOf nodes
  pub least : BeginsLeast nodes
  pub no_order : (order : List ℕ) → IsOrder IsAmong NeedsOf order → ⊥

-- an order of certain nodes where there is one, and else a loop
abbrev pub IsFound : (ℕ → Type 0) → (ℕ → ℕ → Type 0) → Found → Type 0
IsFound IsAmong NeedsOf (Order order) = IsOrder IsAmong NeedsOf order.items
IsFound IsAmong NeedsOf (Loop nodes) = IsLeastLoop IsAmong NeedsOf nodes.items
