use Rattle.std.proofs.Common.{◌≡◌, ℕ, ◌+◌, List, map, All, Some, ap, sym, ◌∙◌, subst, refl, arith}
use Rattle.std.specs.List.{slice_get}
use Rattle.std.specs.Option.{option_map}
use Rattle.std.proofs.lemmas.List.{length-map}
use Rattle.std.proofs.lemmas.Option.{slice_get-map, slice_get_read}
use Rattle.value_types.proofs.IndexLemmas.{HasBelow, told_push, has_push, index_made}
use Rattle.value_types.proofs.listed.index_of.Goals as goal

pub loop-place-preserved : goal.loop-place-preserved
loop-place-preserved g c =
    let items = c.args.items.now in
    let references = map g.T.Referenced.reference items in
    let place = c.loop-place.place in
    let there : slice_get references place ≡ Some c.reference.result =
    slice_get-map g.T.Referenced.reference items place
    ∙ ap (option_map g.T.Referenced.reference) (slice_get_read items _ place c.index-items-place.result refl c.loop-place-test.true c.index-items-place.is)
    ∙ ap Some (sym c.reference.ensures) in
    record {
      told = subst (All (λ (e : ℕ × ℕ). slice_get references e.1 ≡ Some e.0)) (sym c.in_ok-push.ensures.items) (told_push references c.loop-place.index.items _ place there c.loop-place.invariant.told);
      has = subst (λ (index : List (ℕ × ℕ)). HasBelow references index (place + 1)) (sym c.in_ok-push.ensures.items) (has_push references c.loop-place.index.items _ place there c.loop-place.invariant.has);
    }

pub returns : goal.returns
returns g c =
    index_made (map g.T.Referenced.reference c.args.items.now) c.loop-place.index.items c.sort_unstable.new.self.items c.loop-place.place (omega (arith, length-map c.args.items.now g.T.Referenced.reference))
    c.sort_unstable.ensures.permutation c.sort_unstable.ensures.sorted c.loop-place.invariant.told c.loop-place.invariant.has
