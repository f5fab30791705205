use Rattle.std.proofs.Common.{◌≡◌, ℕ, ◌<◌, true, get_or}
use Rattle.doc_tree.specs.Elements.{children_of}
use Rattle.fmu_description.specs.Elements.{is_dimension}
use Rattle.fmu_description.proofs.ignored.has_dimension.Given as goal

abbrev pub invariant-loop-child : goal.invariant-loop-child
invariant-loop-child l = (j : ℕ) → j < l.child-index → is_dimension l.tree (get_or (children_of l.tree l.node) j 0) ≡ true → ⊥
