use Rattle.ssd_tree.specs.Elements.{IsComponent}
use Rattle.ssd_tree.specs.Listings.{IsListingBelow}
use Rattle.ssd_tree.proofs.sorts.components.Given as goal

abbrev pub invariant-loop-node : goal.invariant-loop-node
invariant-loop-node l = IsListingBelow (IsComponent l.tree) l.node l.components.items
