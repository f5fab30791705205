-- Trees of systems whose components have their full names (SSP 1.0, 5.3: elements of a System, and their hierarchical names).
use Rattle.std.specs.Prelude.{◌≡◌, ℕ, ◌<◌, List, [], ◌∷◌, ◌++◌, length, All, Some, None, slice_get}
use Rattle.ssd_tree.specs.declared.tree.Owner.{Owner}
use Rattle.ssd_tree.specs.declared.tree.Owner.TheVariants.{System, Component}
use Rattle.ssd_tree.specs.declared.tree.Binding.{Binding}
use Rattle.ssd_tree.specs.declared.tree.SystemPart.{SystemPart}
use Rattle.ssd_tree.specs.declared.tree.ComponentPart.{ComponentPart}
use Rattle.ssd_tree.specs.declared.tree.SystemTree.{SystemTree}

-- the System or Component is in the list of the tree
abbrev pub IsOwner : SystemTree → Owner → Type 0
IsOwner t (System place) = place < length t.systems
IsOwner t (Component place) = place < length t.components

-- the names of the Systems below the outermost, down to this one, each with a dot after it
pub data IsScope (t : SystemTree) : ℕ → List ℕ → Type 0 where
  Outermost : (s : ℕ) (part : SystemPart) (scope : List ℕ) → slice_get t.systems s ≡ Some part →
      part.parent ≡ None → scope ≡ [] → IsScope t s scope
  Inner : (s outer : ℕ) (part : SystemPart) (above scope : List ℕ) →
      slice_get t.systems s ≡ Some part → part.parent ≡ Some outer → IsScope t outer above →
      scope ≡ above ++ (part.name ++ 46 ∷ []) → IsScope t s scope

-- the name begins with those of the Systems down to this one
pub record BeginsWithScope (t : SystemTree) (s : ℕ) (name : List ℕ) : Type 0 where
  pub scope : List ℕ
  pub scope_is : IsScope t s scope
  pub own : List ℕ
  pub is : name ≡ scope ++ own

-- the component's full name begins with the names of the Systems that it stands in
abbrev pub IsInScope : SystemTree → ComponentPart → Type 0
IsInScope t c = BeginsWithScope t c.system c.name

-- each System comes after the one that it stands in, full names are those of the tree, and each binding is that of a part
pub record IsNamedTree (t : SystemTree) : Type 0 where
  pub outer : (s above : ℕ) (part : SystemPart) → slice_get t.systems s ≡ Some part →
      part.parent ≡ Some above → above < s
  pub within : All (λ (c : ComponentPart). c.system < length t.systems) t.components
  pub scopes : All (IsInScope t) t.components
  pub owners : All (λ (b : Binding). IsOwner t b.owner) t.bindings
