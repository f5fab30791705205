use Rattle.std.proofs.Common.{arith}
use Rattle.port_orders.proofs.GatherLemmas.{adds_pushed, gathers}
use Rattle.port_orders.proofs.gathering.Gathering.add.Goals as goal

pub returns-clause-held : goal.returns-clause-held
returns-clause-held c =
    let s = c.args.self.now in
    gathers _ c.args.port c.args.need s.stamps.items s.lists c.push.new.self c.requires.held c.requires.port c.requires.need c.in_ok-push.ensures.pushed

pub returns-clause-adds : goal.returns-clause-adds
returns-clause-adds c =
    let s = c.args.self.now in
    adds_pushed c.args.taken.now c.args.port c.args.need s.lists c.push.new.self (let n = c.requires.held.len in let l = c.requires.port in omega (arith, n, l)) c.if-not-taken-need.false c.in_ok-push.ensures.pushed
