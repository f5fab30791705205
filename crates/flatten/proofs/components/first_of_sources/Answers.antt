use Rattle.std.proofs.Common.{arith, sym, ◌∙◌, ap}
use Rattle.std.specs.Prelude.{Some}
use Rattle.std.specs.Option.{option_map}
use Rattle.std.proofs.lemmas.Option.{slice_get-get_or}
use Rattle.ssd_tree.specs.declared.tree.ComponentPart.{ComponentPart}
use Rattle.doc_tables.specs.Places.{found_name}
use Rattle.doc_tables.proofs.CallerLemmas.{table_empty, table_whole}
use Rattle.flatten.specs.Flat.{source_at}
use Rattle.flatten.proofs.ComponentLemmas.{source_within}
use Rattle.flatten.proofs.components.first_of_sources.Goals as goal

pub loop-component-init : goal.loop-component-init
loop-component-init c = table_empty (source_at c.args.parts.now) (found_name c.new-places.result) (λ x. c.new-places.ensures x)

pub returns : goal.returns
returns c =
    let parts = c.args.parts.now in
    table_whole (source_at parts) c.loop-component.component (found_name c.loop-component.places) (λ k x h. omega (arith, source_within parts x k h)) c.loop-component.invariant

pub loop-component-preserved : goal.loop-component-preserved
loop-component-preserved c =
    let parts = c.args.parts.now in
    let k = c.loop-component.component in
    let at = slice_get-get_or parts k c.index-parts-component.result c.loop-component-test.true in
    c.in_ok-put.ensures (source_at parts) (ap Some c.as_str.ensures ∙ sym (ap (option_map (λ (p : ComponentPart). p.source)) at)) c.loop-component.invariant
