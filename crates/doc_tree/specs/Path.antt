-- The path to an element: `/NAME[i]` for each level from the root on, as XPath 1.0 (2) writes
-- steps; i counts all elements that stand beside it, from 1.
use Rattle.std.specs.Prelude.{ℕ, suc, zero, ◌+◌, ◌==◌, Bool, true, false, List, [], ◌++◌, take, count_by, Option, Some, None, option_and_then, slice_get, codes, decimal}
use Rattle.std.specs.Option.{option_map_or}
use Rattle.doc_grammar.specs.Nodes.{Node}

abbrev pub name_at : List Node → ℕ → List ℕ
name_at t k = option_map_or (λ (n : Node). n.name) (slice_get t k) []

abbrev pub parent_at : List Node → ℕ → Option ℕ
parent_at t k = option_and_then (λ (n : Node). n.parent) (slice_get t k)

-- both stand in the same element, or in none
abbrev pub is_same : Option ℕ → Option ℕ → Bool
is_same None None = true
is_same None (Some p) = false
is_same (Some o) None = false
is_same (Some o) (Some p) = o == p

-- the place among the elements beside it, from 1: how many there are up to it
abbrev pub place_at : List Node → ℕ → ℕ
place_at t k = count_by (λ (n : Node). is_same n.parent (parent_at t k)) (take (k + 1) t)

abbrev pub step_text : List Node → ℕ → List ℕ
step_text t k = codes "/" ++ name_at t k ++ codes "[" ++ decimal (place_at t k) ++ codes "]"

-- the last levels of the path, at most so many
unfoldable pub path_within : ℕ → List Node → ℕ → List ℕ
path_within zero t k = []
path_within (suc levels) t k =
    option_map_or (path_within levels t) (parent_at t k) [] ++ step_text t k

-- no element is deeper than 64
abbrev pub path_to : List Node → ℕ → List ℕ
path_to t k = path_within 64 t k
