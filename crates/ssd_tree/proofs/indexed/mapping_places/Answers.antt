use Rattle.std.proofs.Common.{arith}
use Rattle.doc_tables.specs.Places.{found_in}
use Rattle.doc_tables.proofs.CallerLemmas.{table_empty, table_whole}
use Rattle.ssd_tree.specs.Elements.{mapping_key}
use Rattle.ssd_tree.proofs.ElementLemmas.{mapping_key_within}
use Rattle.ssd_tree.proofs.indexed.mapping_places.Goals as goal

pub loop-node-init : goal.loop-node-init
loop-node-init c = table_empty (mapping_key c.args.tree.now) (found_in c.new-places.result) (λ x. c.new-places.ensures x.0 x.1)

pub returns : goal.returns
returns c =
    let t = c.args.tree.now in
    table_whole (mapping_key t) c.loop-node.node (found_in c.loop-node.places) (λ k x h. omega (arith, mapping_key_within t k x h)) c.loop-node.invariant
