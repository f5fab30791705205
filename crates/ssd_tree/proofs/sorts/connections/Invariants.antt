use Rattle.ssd_tree.specs.Elements.{IsConnection}
use Rattle.ssd_tree.specs.Listings.{IsListingBelow}
use Rattle.ssd_tree.proofs.sorts.connections.Given as goal

abbrev pub invariant-loop-node : goal.invariant-loop-node
invariant-loop-node l = IsListingBelow (IsConnection l.tree) l.node l.connections.items
