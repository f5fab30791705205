use Rattle.ssd_tree.specs.Elements.{IsConnector}
use Rattle.ssd_tree.specs.Listings.{IsListingBelow}
use Rattle.ssd_tree.proofs.sorts.connectors.Given as goal

abbrev pub invariant-loop-node : goal.invariant-loop-node
invariant-loop-node l = IsListingBelow (IsConnector l.tree) l.node l.connectors.items
