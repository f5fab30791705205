use Rattle.std.proofs.Common.{◌≡◌, ◌++◌, map}
use Rattle.std.specs.Vec.Iter.{into_iter_items, into_iter_len}
use Rattle.nested_documents.specs.Moves.{moved_connection}
use Rattle.nested_documents.proofs.seam.Seam.connection_parts.Given as goal

abbrev pub invariant-loop-part : goal.invariant-loop-part
invariant-loop-part l =
    l.moved.items ++ map (moved_connection l.self l.ends l.side) (into_iter_items l.left) ≡ map (moved_connection l.self l.ends l.side) l.fn.parts.items

abbrev pub decreases-loop-part : goal.decreases-loop-part
decreases-loop-part l = into_iter_len l.left
