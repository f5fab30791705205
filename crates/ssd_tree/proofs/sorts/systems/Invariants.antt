use Rattle.ssd_tree.specs.Elements.{IsSystem}
use Rattle.ssd_tree.specs.Listings.{IsListingBelow}
use Rattle.ssd_tree.proofs.sorts.systems.Given as goal

abbrev pub invariant-loop-node : goal.invariant-loop-node
invariant-loop-node l = IsListingBelow (IsSystem l.tree) l.node l.systems.items
