use Rattle.ssd_tree.specs.Rules.{IsFmu}
use Rattle.ssd_tree.specs.Listings.{IsListingBelow}
use Rattle.ssd_tree.proofs.kinds.fmus.Given as goal

abbrev pub invariant-loop-node : goal.invariant-loop-node
invariant-loop-node l = IsListingBelow (IsFmu l.setting l.tree) l.node l.fmus.items
