use Rattle.std.proofs.Common.{◌<◌, length, subst}
use Rattle.dependency_order.specs.Answers.{IsFound}
use Rattle.dependency_order.specs.Graph.{Needs}
use Rattle.dependency_order.proofs.GroupLemmas.{closed_graph, order_answer, loop_answer}
use Rattle.dependency_order.proofs.grouped.order_grouped.Goals as goal

pub find_order-requires : goal.find_order-requires
find_order-requires c = record { closed = closed_graph c.args.needs c.in_ok-graph.graph c.requires.grouped c.in_ok-graph.ensures }

pub returns-in-Order : goal.returns-in-Order
returns-in-Order c =
    let g = c.in_ok-graph.graph in
    order_answer c.args.needs g c.in-Order.nodes.items c.as_slice.result.now c.in_ok-order-in-Order.order.items c.len-count.result c.requires.grouped c.in_ok-graph.ensures c.as_slice.ensures.value c.len-count.ensures c.in_ok-order-in-Order.ensures
    (subst (IsFound (λ p. p < length g) (Needs g)) c.in-Order.is c.in_ok-nodes.ensures)

pub returns : goal.returns
returns c =
    let g = c.in_ok-graph.graph in
    loop_answer c.args.needs g c.in-Loop.nodes.items c.as_slice-in-Loop.result.now c.in_ok-kept-in-Loop.kept.items c.len-count.result c.requires.grouped c.in_ok-graph.ensures c.as_slice-in-Loop.ensures.value c.len-count.ensures c.in_ok-kept-in-Loop.ensures
    (subst (IsFound (λ p. p < length g) (Needs g)) c.in-Loop.is c.in_ok-nodes.ensures)
