use Rattle.std.proofs.Common.{arith}
use Rattle.rollback.proofs.OneAsking.{bad_back, both_rounds, can_back, can_next}
use Rattle.rollback.proofs.agreeing.ask_all.Goals as goal

pub send-requires-clause-can : goal.send-requires-clause-can
send-requires-clause-can g c κs within = can_back g.L.Peer.view c.args.t c.args.end c.args.step c.args.asked c.args.slots.now c.requires.placed c.requires.back

pub send-requires-2-clause-can : goal.send-requires-2-clause-can
send-requires-2-clause-can g c κs within =
    can_next g.L.Peer.view c.args.t c.args.end c.args.step c.requires.later c.args.asked c.requires.meant c.args.slots.now c.send.new.slots c.requires.placed c.requires.back c.requires.fitting (omega arith) c.in-Ok.ensures

pub returns-in-Err : goal.returns-in-Err
returns-in-Err g c = bad_back g.L.Peer.view c.args.t c.args.end c.args.step c.args.asked c.args.slots.now c.send.new.slots c.in-Err.bad c.in-Err.ensures

pub returns : goal.returns
returns g c =
    both_rounds g.L.Peer.view c.args.t c.args.end c.args.step c.requires.later c.args.asked c.requires.meant c.args.slots.now c.send.new.slots c.requires.placed c.requires.back c.requires.fitting (omega arith) c.in-Ok.ensures
    c.send-2.new.slots c.send-2.result c.send-2.ensures
