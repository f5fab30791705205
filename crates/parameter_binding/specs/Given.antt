-- What is asked of a tree of systems, the shapes of its components and the sets of its bindings.
use Rattle.std.specs.Prelude.{◌≡◌, List, length, All}
use Rattle.value_types.specs.declared.shape.Shape.{Shape}
use Rattle.system_model.specs.Shapes.{IsSoundShape}
use Rattle.ssd_tree.specs.declared.tree.SystemTree.{SystemTree}
use Rattle.parameter_values.specs.Ranges.{AreInRange}
use Rattle.ssd_tree.specs.Named.{IsNamedTree}
use Rattle.parameter_binding.specs.declared.sets.BindingSets.{BindingSets}

-- a sound shape for each component, and a set in range for each binding
pub record AreGiven (t : SystemTree) (shapes : List Shape) (sets : List BindingSets) : Type 0 where
  pub tree : IsNamedTree t
  pub shapes_len : length shapes ≡ length t.components
  pub sound : All IsSoundShape shapes
  pub sets_len : length sets ≡ length t.bindings
  pub ranges : All (λ (given : BindingSets). AreInRange given.values.set) sets
