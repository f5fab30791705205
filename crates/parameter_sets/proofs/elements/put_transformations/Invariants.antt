use Rattle.std.proofs.Common.{◌≡◌, ◌++◌, filter, take}
use Rattle.doc_tables.specs.Elements.{children, name_of}
use Rattle.doc_tables.specs.Documents.{is_transformation}
use Rattle.parameter_sets.proofs.elements.put_transformations.Given as goal

abbrev pub invariant-loop-child : goal.invariant-loop-child
invariant-loop-child l = l.found.items ≡ l.initial.found.items ++ filter (λ c. is_transformation (name_of l.tree c)) (take l.child-index (children l.tree l.node))
