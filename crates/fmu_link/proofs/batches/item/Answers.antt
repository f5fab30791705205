use Rattle.std.proofs.Common.{◌+◌, ◌-◌, ◌*◌, ℕ, arith}
use Rattle.fmu_link.proofs.BatchReplies.{item_is, item_taken, item_within}
use Rattle.fmu_link.proofs.batches.item.Goals as goal

pub slice_bounds-take_reply-end : goal.slice_bounds-take_reply-end
slice_bounds-take_reply-end c =
    let h = c.requires in
    let within = item_within c.args.came.now h.0 c.args.i h.1 h.2 in
    omega (arith, within)

pub unreachable-requires : goal.unreachable-requires
unreachable-requires c =
    let h = c.requires in
    let size : ℕ = 24 * (c.args.i + 1) + 24 - 24 * (c.args.i + 1) in
    item_taken c.args.came.now h.0 c.args.i h.1 h.2 size (omega arith) c.take_reply.result c.take_reply.ensures.only c.in-NeedMore.is

pub returns : goal.returns
returns c =
    let h = c.requires in
    let size : ℕ = 24 * (c.args.i + 1) + 24 - 24 * (c.args.i + 1) in
    item_is c.args.came.now h.0 c.args.i h.1 h.2 size (omega arith) c.in-Got.value c.in-Got.length c.in-Got.ensures.taken
