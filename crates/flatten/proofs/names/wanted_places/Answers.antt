use Rattle.std.proofs.Common.{◌≡◌, ◌≤◌, length, Some, refl, sym, ap, ◌∙◌, arith}
use Rattle.std.specs.List.{slice_get}
use Rattle.std.specs.Option.{option_and_then}
use Rattle.std.proofs.lemmas.Option.{slice_get_read}
use Rattle.doc_tables.specs.Places.{found_in}
use Rattle.doc_tables.proofs.CallerLemmas.{table_empty, table_whole}
use Rattle.ssd_tree.specs.declared.tree.Connector.{Connector}
use Rattle.flatten.specs.Indexed.{wanted_at, wanted_by}
use Rattle.flatten.proofs.NameLemmas.{wanted_within}
use Rattle.flatten.proofs.names.wanted_places.Goals as goal

pub loop-number-init : goal.loop-number-init
loop-number-init c = table_empty (wanted_at c.args.connectors.now) (found_in c.new-wanted.result) (λ x. c.new-wanted.ensures x.0 x.1)

pub loop-number-preserved : goal.loop-number-preserved
loop-number-preserved c =
    let connectors = c.args.connectors.now in
    let i = c.loop-number.number in
    let k = c.index-connectors-number.result in
    let there : slice_get connectors i ≡ Some k = slice_get_read connectors (length connectors) i k refl (omega arith) c.index-connectors-number.is in
    c.in_ok-put.ensures (wanted_at connectors) (c.wanted_by.ensures ∙ sym (ap (option_and_then (λ (z : Connector). wanted_by z.owner z.name)) there)) c.loop-number.invariant

pub returns : goal.returns
returns c =
    let connectors = c.args.connectors.now in
    let past : length connectors ≤ c.loop-number.number = omega arith in
    table_whole (wanted_at connectors) c.loop-number.number (found_in c.loop-number.wanted) (λ k x is. let within = wanted_within connectors k x is in omega arith) c.loop-number.invariant
