-- The way from an element out to the outermost System.
use Rattle.std.specs.Prelude.{◌≡◌, ℕ, List, [], ◌∷◌, Some, codes}
use Rattle.doc_grammar.specs.Nodes.{Node}
use Rattle.doc_tables.specs.Elements.{parent}
use Rattle.ssd_tree.specs.Elements.{holder}

-- the elements from this one on, each among the Elements of the next, and the last among those of the end
abbrev pub Climbs : List Node → ℕ → List ℕ → ℕ → Type 0
Climbs t k [] end = k ≡ end
Climbs t k (x ∷ xs) end =
    (x ≡ k) × ((outer : ℕ) × (holder t k (codes "Elements") ≡ Some outer) × Climbs t outer xs end)

-- the elements from this one out to the outermost System, which isn't among them
abbrev pub LeadsOut : List Node → ℕ → List ℕ → Type 0
LeadsOut t k path = (outermost : ℕ) × Climbs t k path outermost × (parent t outermost ≡ Some 0)
