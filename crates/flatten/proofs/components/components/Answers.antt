use Rattle.std.proofs.Common.{◌≡◌, ◌<◌, [], ◌∷◌, ◌++◌, length, sym, ◌∙◌, ap, subst, arith}
use Rattle.std.specs.Prelude.{Some, slice_get, unwrap_or}
use Rattle.std.proofs.lemmas.Option.{slice_get-get_or}
use Rattle.std.proofs.lemmas.List.{length_push}
use Rattle.doc_tables.specs.Places.{found_name}
use Rattle.doc_tables.specs.Tables.{IsFirstWith}
use Rattle.flatten.specs.Flat.{IsComponentOf, source_at}
use Rattle.flatten.proofs.ComponentLemmas.{each_push, first_source}
use Rattle.flatten.proofs.components.components.Goals as goal

pub loop-number-preserved : goal.loop-number-preserved
loop-number-preserved c =
    let parts = c.args.parts.now in
    let shapes = c.args.shapes.now in
    let n = c.loop-number.number in
    let sources = c.in_ok-sources.sources in
    let part = c.index-parts-number.result in
    let one = c.in_ok-component.field-0 in
    let xs = c.loop-number.components.items in
    let within : n < length shapes = omega (arith, c.loop-number-test.true, c.requires.len) in
    let part_at : slice_get parts n ≡ Some part = slice_get-get_or parts n part c.loop-number-test.true ∙ ap Some (sym c.index-parts-number.is) in
    let shape_at = slice_get-get_or shapes n c.index-shapes-number.result within ∙ ap Some (sym c.index-shapes-number.is) in
    let found : c.unwrap_or-source.result ≡ unwrap_or (found_name sources part.source) n = c.unwrap_or-source.ensures ∙ ap (λ o. unwrap_or o n) (c.find.ensures ∙ ap (found_name sources) c.as_str.ensures) in
    let is : IsComponentOf parts shapes n one = record {
      part = part;
      at = part_at;
      name = c.in_ok-component.ensures.0;
      source = subst (λ k. IsFirstWith (source_at parts) part.source k) (sym (c.in_ok-component.ensures.1 ∙ found)) (first_source parts (found_name sources) c.in_ok-sources.ensures n part part_at);
      shape = shape_at ∙ ap Some (sym c.in_ok-component.ensures.2);
    } in
    let items : c.push.new.self.items ≡ xs ++ one ∷ [] = c.in_ok-push.ensures.items in
    record {
      len = omega (arith, ap length items, length_push xs one, c.loop-number.invariant.len);
      each = λ i x at. each_push (IsComponentOf parts shapes) xs one c.loop-number.invariant.each (subst (λ k. IsComponentOf parts shapes k one) (sym c.loop-number.invariant.len) is) i x
          (ap (λ ys. slice_get ys i) (sym items) ∙ at);
    }
