use Rattle.ssd_tree.specs.Elements.{IsBinding}
use Rattle.ssd_tree.specs.Listings.{IsListingBelow}
use Rattle.ssd_tree.proofs.sorts.bindings.Given as goal

abbrev pub invariant-loop-node : goal.invariant-loop-node
invariant-loop-node l = IsListingBelow (IsBinding l.tree) l.node l.bindings.items
