use Rattle.std.proofs.Common.{arith}
use Rattle.dependency_order.proofs.GroupLemmas.{group_within}
use Rattle.dependency_order.proofs.grouped.expand.Goals as goal

pub overflow_add-nodes : goal.overflow_add-nodes
overflow_add-nodes c =
    let n = c.args.needs in
    let l = group_within n c.loop-node.node c.in-Some.group c.index.result.now c.requires (let p = c.requires.places in omega (arith, p)) c.index.ensures c.in-Some.is in
    let few = c.requires.few in
    record { fits = omega (arith, l, few) }
