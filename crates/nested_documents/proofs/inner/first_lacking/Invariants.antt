use Rattle.std.proofs.Common.{◌≡◌, drop}
use Rattle.nested_documents.specs.Inner.{first_unfound}
use Rattle.nested_documents.proofs.inner.first_lacking.Given as goal

abbrev pub invariant-loop-connector : goal.invariant-loop-connector
invariant-loop-connector l =
    first_unfound (drop l.connector-index l.own) l.places ≡ first_unfound l.own l.places
