use Rattle.std.proofs.Common.{arith}
use Rattle.doc_tables.specs.Places.{found_in}
use Rattle.doc_tables.proofs.CallerLemmas.{table_empty, table_whole}
use Rattle.nested_documents.specs.Inner.{inner_key}
use Rattle.nested_documents.proofs.InnerLemmas.{key_within}
use Rattle.nested_documents.proofs.inner.inner_places.Goals as goal

pub loop-place-init : goal.loop-place-init
loop-place-init c = table_empty (inner_key c.args.inner.now) (found_in c.new-places.result) (λ x. c.new-places.ensures x.0 x.1)

pub returns : goal.returns
returns c =
    let inner = c.args.inner.now in
    table_whole (inner_key inner) c.loop-place.place (found_in c.loop-place.places) (λ k x h. omega (arith, key_within inner k x h)) c.loop-place.invariant
