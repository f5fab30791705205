use Rattle.fmu_description.specs.Marks.{ListsBelow, listed_at}
use Rattle.fmu_description.proofs.ignored.followers.Given as goal

abbrev pub invariant-loop-node : goal.invariant-loop-node
invariant-loop-node l = ListsBelow l.tree l.node (listed_at l.table)
