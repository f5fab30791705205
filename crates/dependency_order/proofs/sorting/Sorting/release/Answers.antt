use Rattle.std.proofs.Common.{arith, ◌∙◌}
use Rattle.dependency_order.proofs.ReleaseLemmas.{node_within, taken_within, taken_sorting, released}
use Rattle.dependency_order.proofs.sorting.Sorting.release.Goals as goal

pub take-nodes-requires : goal.take-nodes-requires
take-nodes-requires c =
    let o = c.args.self.now in
    let l = node_within c.args.needs.now o.order.items o.placed.items o.passed.items o.waiting c.args.at c.index-node.result.now c.requires.sorting c.requires.at c.index-node.ensures in
    let m = c.requires.sorting.lists in
    omega (arith, l, m)

pub examine_all-requires-clause-sorting : goal.examine_all-requires-clause-sorting
examine_all-requires-clause-sorting c =
    let o = c.args.self.now in
    taken_sorting c.args.needs.now o.order.items o.placed.items o.passed.items o.waiting c.take-nodes.new.self c.index-node.result.now c.requires.sorting c.take-nodes.ensures.left

pub examine_all-requires-clause-nodes : goal.examine_all-requires-clause-nodes
examine_all-requires-clause-nodes c =
    let o = c.args.self.now in
    taken_within c.args.needs.now o.order.items o.placed.items o.passed.items o.waiting c.as_slice.result.now c.index-node.result.now c.requires.sorting (c.as_slice.ensures.value ∙ c.take-nodes.ensures.taken)

pub returns-clause-held : goal.returns-clause-held
returns-clause-held c =
    let o = c.args.self.now in
    let n = c.examine_all.new.self in
    released c.examine_all.result c.args.needs.now o.order.items n.order.items o.placed.items n.placed.items o.waiting c.take-nodes.new.self n.waiting c.as_slice.result.now c.args.at c.index-node.result.now
    c.requires.at c.index-node.ensures c.take-nodes.ensures.left (c.as_slice.ensures.value ∙ c.take-nodes.ensures.taken) c.requires.held c.examine_all.ensures.further c.examine_all.ensures.held
