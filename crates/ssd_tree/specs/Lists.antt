-- The parts of a system in lists that may grow, and the places of those Components that are systems of their own.
use Rattle.std.specs.Prelude.{ℕ, suc, ◌<◌, ◌≤◌, List, [], ◌∷◌, map}
use Rattle.std.specs.Coded.{×_prop, Unit-prop, le_prop}
use Rattle.ssd_tree.specs.declared.lists.Parts.{Parts}
use Rattle.ssd_tree.specs.declared.tree.NestedComponent.{NestedComponent}
use Rattle.ssd_tree.specs.declared.tree.SystemTree.{SystemTree}

abbrev pub tree_of : Parts → SystemTree
tree_of parts = record {
  systems = parts.systems.items;
  components = parts.components.items;
  connectors = parts.connectors.items;
  connections = parts.connections.items;
  bindings = parts.bindings.items;
}

-- rising numbers from the first on, below the second
abbrev pub AreBetween : ℕ → ℕ → List ℕ → Type 0
AreBetween low high [] = Unit {0}
AreBetween low high (k ∷ ks) = (low ≤ k) × ((k < high) × AreBetween (suc k) high ks)

pub AreBetween-prop : (low high : ℕ) (ks : List ℕ) → IsProp (AreBetween low high ks)
AreBetween-prop low high [] = Unit-prop
AreBetween-prop low high (k ∷ ks) = ×_prop le_prop (×_prop le_prop (AreBetween-prop (suc k) high ks))

-- the places of nested Components among those of their document
abbrev pub places_of : List NestedComponent → List ℕ
places_of nested = map (λ (n : NestedComponent). n.component) nested
