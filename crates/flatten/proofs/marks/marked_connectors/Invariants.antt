use Rattle.flatten.proofs.MarkLemmas.{ListsBelow}
use Rattle.flatten.proofs.marks.marked_connectors.Given as goal

abbrev pub invariant-loop-number : goal.invariant-loop-number
invariant-loop-number l = ListsBelow l.marks l.number l.all.items
