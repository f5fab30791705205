use Rattle.doc_tables.specs.Tables.{IsTableBelow}
use Rattle.doc_tables.specs.Places.{found_in}
use Rattle.nested_documents.specs.Inner.{inner_key}
use Rattle.nested_documents.proofs.inner.inner_places.Given as goal

abbrev pub invariant-loop-place : goal.invariant-loop-place
invariant-loop-place l = IsTableBelow (inner_key l.inner) l.place (found_in l.places)
