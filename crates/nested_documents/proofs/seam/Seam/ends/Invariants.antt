use Rattle.std.proofs.Common.{◌≡◌, take}
use Rattle.nested_documents.specs.Inner.{found_ends}
use Rattle.nested_documents.proofs.seam.Seam.ends.Given as goal

abbrev pub invariant-loop-connector : goal.invariant-loop-connector
invariant-loop-connector l =
    l.ends.items ≡ found_ends l.self l.places (take l.connector-index l.own)
