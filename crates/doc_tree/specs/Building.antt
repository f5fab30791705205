-- The nodes that are built.
use Rattle.std.specs.Prelude.{◌≡◌, ℕ, ◌<◌, List, [], ◌∷◌, ◌++◌}
use Rattle.doc_grammar.specs.Grammar.{Event}
use Rattle.doc_grammar.specs.Nodes.{Node, nodes_after, nodes_of}

-- the numbers of so many nodes
abbrev pub AllBelow : ℕ → List ℕ → Type 0
AllBelow n [] = Unit {0}
AllBelow n (k ∷ ks) = (k < n) × AllBelow n ks

-- of these events the nodes were built, inside the elements with these numbers: whatever follows
-- gives the nodes of all
abbrev pub HasBuilt : List Event → List ℕ → List Node → Type 0
HasBuilt events around nodes =
    (more : List Event) → nodes_after more around nodes ≡ nodes_of (events ++ more)
