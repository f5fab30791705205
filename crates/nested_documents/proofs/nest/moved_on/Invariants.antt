use Rattle.std.proofs.Common.{◌≡◌, ◌++◌, map}
use Rattle.std.specs.Vec.Iter.{into_iter_items, into_iter_len}
use Rattle.nested_documents.specs.Nest.{moved_waiting}
use Rattle.nested_documents.proofs.nest.moved_on.Given as goal

abbrev pub invariant-loop-one : goal.invariant-loop-one
invariant-loop-one l =
    l.waiting.items ++ map (moved_waiting l.seam) (into_iter_items l.left) ≡ map (moved_waiting l.seam) l.fn.rest.items

abbrev pub decreases-loop-one : goal.decreases-loop-one
decreases-loop-one l = into_iter_len l.left
