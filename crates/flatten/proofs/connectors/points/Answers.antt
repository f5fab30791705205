use Rattle.std.proofs.Common.{◌≡◌, ◌+◌, ◌<◌, List, length, get_or, Some, refl, sym, ap, ◌∙◌, subst, arith}
use Rattle.std.specs.List.{slice_get}
use Rattle.std.proofs.lemmas.List.{length_push}
use Rattle.std.proofs.lemmas.Option.{slice_get_read}
use Rattle.ssd_tree.specs.declared.tree.Connector.{Connector}
use Rattle.flatten.specs.Indexed.{AreNames, IsPlaceIn, number_for, place_for}
use Rattle.flatten.proofs.ConnectorLemmas.{AreNumberedBelow, placed_in, numbered_more, numbered_whole}
use Rattle.flatten.proofs.connectors.points.Goals as goal

pub point-requires-clause-placed : goal.point-requires-clause-placed
point-requires-clause-placed c =
    let k = c.index-connectors-number.result in
    let t = c.args.tree.now in
    let i = c.loop-number.number in
    let all = c.as_slice-connectors.ensures in
    let count = ap length all in
    let there : slice_get t.connectors i ≡ Some k = slice_get_read t.connectors (length t.connectors) i k refl (omega arith) (c.index-connectors-number.is ∙ ap (λ xs. get_or xs i k) all) in
    let place : c.place_named-place.result ≡ place_for c.args.shapes.now k.owner k.name =
    c.place_named-place.ensures ∙ subst (λ (ks : List Connector). AreNames ks c.args.shapes.now c.in_ok-names.names) all c.in_ok-names.ensures i k there in
    subst (IsPlaceIn c.args.variables.now k.owner) (sym place) (placed_in c.args.shapes.now c.args.variables.now k.owner k.name c.requires.variables)

pub loop-number-preserved : goal.loop-number-preserved
loop-number-preserved c =
    let i = c.loop-number.number in
    let k = c.index-connectors-number.result in
    let t = c.args.tree.now in
    let shapes = c.args.shapes.now in
    let all = c.as_slice-connectors.ensures in
    let count = ap length all in
    let within : i < length t.connectors = omega arith in
    let read : k ≡ get_or t.connectors i k = c.index-connectors-number.is ∙ ap (λ xs. get_or xs i k) all in
    let there : slice_get t.connectors i ≡ Some k = slice_get_read t.connectors (length t.connectors) i k refl within read in
    let place : c.place_named-place.result ≡ place_for shapes k.owner k.name =
    c.place_named-place.ensures ∙ subst (λ (ks : List Connector). AreNames ks shapes c.in_ok-names.names) all c.in_ok-names.ensures i k there in
    let point : c.point.result ≡ number_for shapes i k.owner (place_for shapes k.owner k.name) = c.point.ensures shapes c.requires.variables ∙ ap (number_for shapes i k.owner) place in
    record {
      len = ap length c.in_ok-push.ensures.items ∙ length_push c.loop-number.points.items c.point.result ∙ ap (λ n. n + 1) c.loop-number.invariant.len;
      each = subst (AreNumberedBelow t shapes (i + 1)) (sym c.in_ok-push.ensures.items) (numbered_more t shapes c.loop-number.points.items i k c.point.result c.loop-number.invariant.len within read point c.loop-number.invariant.each);
    }

pub returns : goal.returns
returns c =
    let count = ap length c.as_slice-connectors.ensures in
    numbered_whole c.args.tree.now c.args.shapes.now c.loop-number.points.items c.loop-number.number c.loop-number.invariant.len (omega arith) c.loop-number.invariant.each
