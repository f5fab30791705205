use Rattle.std.proofs.Common.{sym, ◌∙◌}
use Rattle.rollback.proofs.Sending.{sends_none}
use Rattle.rollback.proofs.asking.send.Goals as goal

pub returns-then-not-is_any_sent : goal.returns-then-not-is_any_sent
returns-then-not-is_any_sent g c = sends_none g.L.Peer.view c.args.who c.args.turn c.args.slots.now (sym c.is_any_sent.ensures ∙ c.if-not-is_any_sent.true)
