use Rattle.std.proofs.Common.{◌<◌, length, arith}
use Rattle.dependency_order.proofs.SpreadLemmas.{none_read, spreads_marked, spreads_unmarked}
use Rattle.dependency_order.proofs.paths.Spreading.reach.Goals as goal

pub returns-in_ok-push : goal.returns-in_ok-push
returns-in_ok-push c =
    let within : c.args.node < length c.args.self.now.found.items = omega arith in
    spreads_marked c.args.through.now c.args.from c.args.node c.args.self.now.found.items c.args.self.now.work.items c.push.new.self.items within
    (none_read c.args.self.now.found.items c.args.node c.index.result.now within c.index.ensures c.if-is_none.ensures) c.if-through-node.true c.in_ok-push.ensures.items

pub returns-else-through-node : goal.returns-else-through-node
returns-else-through-node c =
    let within : c.args.node < length c.args.self.now.found.items = omega arith in
    spreads_unmarked c.args.through.now c.args.from c.args.node c.args.self.now.found.items c.args.self.now.work.items within
    (none_read c.args.self.now.found.items c.args.node c.index.result.now within c.index.ensures c.if-is_none.ensures) c.if-through-node.false
