use Rattle.std.proofs.Common.{◌≡◌, filter, take}
use Rattle.doc_tables.specs.Elements.{children, is_named}
use Rattle.transformations.proofs.elements.children_named.Given as goal

abbrev pub invariant-loop-child : goal.invariant-loop-child
invariant-loop-child l = l.found.items ≡ filter (λ c. is_named l.tree c l.wanted) (take l.child-index (children l.tree l.node))
