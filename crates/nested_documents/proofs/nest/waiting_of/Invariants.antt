use Rattle.std.proofs.Common.{◌≡◌, ◌++◌, map}
use Rattle.std.specs.Vec.Iter.{into_iter_items, into_iter_len}
use Rattle.nested_documents.specs.Nest.{waiting_from}
use Rattle.nested_documents.proofs.nest.waiting_of.Given as goal

abbrev pub invariant-loop-one : goal.invariant-loop-one
invariant-loop-one l =
    l.waiting.items ++ map (waiting_from l.before l.document l.level) (into_iter_items l.left) ≡ map (waiting_from l.before l.document l.level) l.fn.nested.items

abbrev pub decreases-loop-one : goal.decreases-loop-one
decreases-loop-one l = into_iter_len l.left
