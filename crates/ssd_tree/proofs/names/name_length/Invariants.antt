use Rattle.ssd_tree.proofs.NameLemmas.{IsNameAfter}
use Rattle.ssd_tree.proofs.names.name_length.Given as goal

abbrev pub invariant-loop-outer : goal.invariant-loop-outer
invariant-loop-outer l = IsNameAfter l.tree l.node l.current l.after

abbrev pub decreases-loop-outer : goal.decreases-loop-outer
decreases-loop-outer l = l.current
