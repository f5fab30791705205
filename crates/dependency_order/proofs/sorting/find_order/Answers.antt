use Rattle.std.proofs.Common.{◌<◌, length, sym, subst}
use Rattle.dependency_order.specs.Sorting.{IsStuck}
use Rattle.dependency_order.specs.Graph.{Needs}
use Rattle.dependency_order.proofs.ListLemmas.{needs_within}
use Rattle.dependency_order.proofs.LoopLemmas.{some_node, least_loop}
use Rattle.dependency_order.proofs.SortLemmas.{whole_order_of}
use Rattle.dependency_order.proofs.sorting.find_order.Goals as goal

pub returns-in-None : goal.returns-in-None
returns-in-None c =
    let s = c.place_all.new.self in
    whole_order_of c.args.needs.now s.order.items s.placed.items c.as_slice.result.now s.passed.items s.waiting c.as_slice.ensures.value c.in_ok-place_all.ensures.sorting c.in-None.ensures

pub find_loop-requires-clause-stuck : goal.find_loop-requires-clause-stuck
find_loop-requires-clause-stuck c = subst (IsStuck c.args.needs.now) (sym c.as_slice-in-Some.ensures.value) c.in_ok-place_all.ensures.stuck

pub begin_least-requires : goal.begin_least-requires
begin_least-requires c = some_node (Needs c.args.needs.now) c.in_ok-nodes-in-Some.nodes.items c.in_ok-nodes-in-Some.ensures

pub returns-in_ok-nodes-in-Some : goal.returns-in_ok-nodes-in-Some
returns-in_ok-nodes-in-Some c =
    let g = c.args.needs.now in
    let turned = c.begin_least.ensures in
    least_loop (λ p. p < length g) (Needs g) c.in_ok-nodes-in-Some.nodes.items c.begin_least.result.items (needs_within g) c.in_ok-nodes-in-Some.ensures turned.rotated turned.least
