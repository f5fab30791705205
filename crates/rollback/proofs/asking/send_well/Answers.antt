use Rattle.std.proofs.Common.{rules}
use Rattle.rollback.proofs.Sending.{can_each, sends_by}
use Rattle.rollback.proofs.asking.send_well.Goals as goal

pub round-requires : goal.round-requires
round-requires g c =
    let can = can_each g.L.Peer.view c.args.who c.args.turn c.args.slots.now c.set_jobs.new.slots c.set_jobs.ensures c.requires.can in
    search (rules, can)

pub returns-clause-sends : goal.returns-clause-sends
returns-clause-sends g c =
    sends_by g.L.Peer.view c.args.who c.args.turn c.args.slots.now c.set_jobs.new.slots c.round.new.slots c.set_jobs.ensures c.round.ensures
