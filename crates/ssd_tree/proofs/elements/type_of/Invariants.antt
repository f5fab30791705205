use Rattle.std.proofs.Common.{◌≡◌, drop}
use Rattle.ssd_tree.specs.Elements.{first_type}
use Rattle.ssd_tree.proofs.elements.type_of.Given as goal

abbrev pub invariant-loop-child : goal.invariant-loop-child
invariant-loop-child l = first_type l.tree l.child-items ≡ first_type l.tree (drop l.child-index l.child-items)
