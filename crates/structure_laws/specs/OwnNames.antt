-- Components by their own names (SSP 1.0, 5.3: elements of a System, and their hierarchical names).
use Rattle.std.specs.Prelude.{◌≡◌, ℕ, List, ◌++◌, Some, slice_get}
use Rattle.ssd_tree.specs.declared.tree.ComponentPart.{ComponentPart}
use Rattle.ssd_tree.specs.declared.tree.SystemTree.{SystemTree}
use Rattle.ssd_tree.specs.Named.{IsScope}

-- the full name of the Component at a place: those of the Systems around it, and then its own
pub record HasOwnName (t : SystemTree) (place : ℕ) (own : List ℕ) : Type 0 where
  pub component : ComponentPart
  pub at : slice_get t.components place ≡ Some component
  pub scope : List ℕ
  pub scope_is : IsScope t component.system scope
  pub is : component.name ≡ scope ++ own
