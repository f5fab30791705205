use Rattle.std.proofs.Common.{ap, sym, ◌∙◌, ◌++◌, [], ◌∷◌, arith}
use Rattle.std.proofs.lemmas.List.{take_all}
use Rattle.bench_fmus.specs.Packed.{in_order, references_from}
use Rattle.bench_fmus.proofs.OrderLemmas.{references_more, sorted_is}
use Rattle.bench_fmus.proofs.packed.order_of.Goals as goal

pub loop-place-preserved : goal.loop-place-preserved
loop-place-preserved c =
    let v = c.index-variables-place.result in
    c.in_ok-push.ensures.items
    ∙ ap (λ es. es ++ (v.reference, c.loop-place.place) ∷ []) c.loop-place.invariant
    ∙ sym (references_more c.args.variables.now c.loop-place.place v c.loop-place-test.true c.index-variables-place.is)

pub returns : goal.returns
returns c =
    sorted_is c.loop-place.order.items _ c.sort_unstable.ensures.permutation c.sort_unstable.ensures.sorted
    ∙ ap in_order (c.loop-place.invariant ∙ ap (references_from 0) (take_all c.loop-place.place c.args.variables.now (omega arith)))
