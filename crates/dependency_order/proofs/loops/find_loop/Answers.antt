use Rattle.std.proofs.Common.{length, Some, sym, ap, ◌∙◌, subst, arith}
use Rattle.std.proofs.lemmas.List.{length-set}
use Rattle.dependency_order.specs.Graph.{Needs}
use Rattle.dependency_order.proofs.OrderLemmas.{Walks, walks_push}
use Rattle.dependency_order.proofs.FindLemmas.{told_push, told_at, loops_after}
use Rattle.dependency_order.proofs.loops.find_loop.Goals as goal

pub after-requires : goal.after-requires
after-requires c =
    let i = c.loop-place.invariant in
    let at = told_at c.loop-place.places.items c.loop-place.path.items c.loop-place.node c.in-Some.place c.index.result.now i.told (let n = i.places in let l = i.node in omega (arith, n, l)) c.index.ensures c.in-Some.is in
    let l = at.within in
    let e = ap length c.as_slice.ensures.value in
    omega (arith, l, e)

pub returns-in-Some : goal.returns-in-Some
returns-in-Some c =
    let i = c.loop-place.invariant in
    let at = told_at c.loop-place.places.items c.loop-place.path.items c.loop-place.node c.in-Some.place c.index.result.now i.told (let n = i.places in let l = i.node in omega (arith, n, l)) c.index.ensures c.in-Some.is in
    loops_after c.after.result c.args.needs.now c.loop-place.path.items c.as_slice.result.now c.loop-place.node c.in-Some.place c.as_slice.ensures.value i.walks at c.after.ensures

pub loop-place-preserved : goal.loop-place-preserved
loop-place-preserved c =
    let i = c.loop-place.invariant in
    let g = c.args.needs.now in
    let n = c.missing_need-node.ensures in
    record {
      walks = subst (λ z. Walks (Needs g) z c.missing_need-node.result) (sym c.in_ok-push.ensures.items) (walks_push (Needs g) c.loop-place.path.items c.loop-place.node c.missing_need-node.result i.walks n.needed);
      node = c.requires.closed.below c.loop-place.node c.missing_need-node.result n.needed;
      unplaced = n.unplaced;
      places = length-set c.loop-place.places.items c.loop-place.node (Some c.len-in-loop-place.result) ∙ i.places;
      told = told_push c.loop-place.places.items c.loop-place.path.items c.push.new.self.items c.loop-place.node c.len-in-loop-place.result i.told (let p = i.places in let l = i.node in omega (arith, p, l)) (omega arith) c.in_ok-push.ensures.items;
    }
