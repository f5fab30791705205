-- Nodes that need others one by one, and whole groups of them.
use Rattle.std.specs.Prelude.{◌≡◌, ◌⊎◌, ℕ, ◌+◌, ◌<◌, ◌^◌, List, [], ◌∷◌, ◌++◌, length, slice_index_or, Option, Some, None}
use Rattle.dependency_order.specs.declared.grouped.GroupedNeeds.{GroupedNeeds}
use Rattle.dependency_order.specs.Graph.{AreBelow, Needs}

-- p needs q by its list, or as one of the nodes of its group
abbrev pub NeedsGrouped : GroupedNeeds → ℕ → ℕ → Type 0
NeedsGrouped needs p q =
    Needs needs.listed p q ⊎ ((group : ℕ) ×
    (slice_index_or needs.group_of.items p None ≡ Some group) × Needs needs.groups group q)

-- each node that has a group has one of so many
abbrev pub AreNamed : List (Option ℕ) → ℕ → Type 0
AreNamed group_of count =
    (p group : ℕ) → slice_index_or group_of p None ≡ Some group → group < count

-- lists and groups name nodes alone, and each node that has a group one of the groups
pub record IsGrouped (needs : GroupedNeeds) : Type 0 where
  pub places : length needs.group_of.items ≡ length needs.listed
  pub listed : AreBelow needs.listed (length needs.listed)
  pub groups : AreBelow needs.groups (length needs.listed)
  pub named : AreNamed needs.group_of.items (length needs.groups)
  pub few : length needs.listed + length needs.groups < 2 ^ 64

-- ---- a graph where each group is one more node, after the others

abbrev pub group_node : ℕ → Option ℕ → List ℕ
group_node nodes None = []
group_node nodes (Some group) = (nodes + group) ∷ []

-- a node needs those of its list and the node of its group, which needs those of the group
pub record IsExpanded (needs : GroupedNeeds) (graph : List (List ℕ)) : Type 0 where
  pub nodes : length graph ≡ length needs.listed + length needs.groups
  pub node : (p : ℕ) → p < length needs.listed →
      slice_index_or graph p [] ≡ slice_index_or needs.listed p [] ++
      group_node (length needs.listed) (slice_index_or needs.group_of.items p None)
  pub group : (group : ℕ) → slice_index_or graph (length needs.listed + group) [] ≡
      slice_index_or needs.groups group []
