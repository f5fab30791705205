use Rattle.rollback.proofs.OneAsking.{asked_over, can_now, fails_over, fitting_by, one_round, unfit_over}
use Rattle.rollback.proofs.agreeing.ask_home.Goals as goal

pub returns-in-Err : goal.returns-in-Err
returns-in-Err g c =
    unfit_over g.L.Peer.view c.args.t c.args.step c.args.sized c.args.asked c.args.end c.args.slots.now c.args.slots.now c.in-Err.unfit c.in-Err.ensures

pub send-requires-clause-can : goal.send-requires-clause-can
send-requires-clause-can g c κs within =
    can_now g.L.Peer.view c.args.t c.args.end c.args.step c.requires.later c.args.asked c.requires.meant c.args.slots.now c.requires.placed c.requires.home
    (fitting_by g.L.Peer.view c.args.step _ c.args.sized c.args.asked c.args.slots.now c.in-Ok.ensures c.requires.tested)

pub returns-in-Ok-send : goal.returns-in-Ok-send
returns-in-Ok-send g c =
    let fits = c.in-Ok.ensures in
    asked_over g.L.Peer.view c.args.t c.args.step c.args.sized c.args.asked c.args.end c.args.slots.now _ fits
    (one_round g.L.Peer.view c.args.t c.args.end c.args.step c.requires.later c.args.asked c.requires.meant c.args.slots.now c.requires.placed c.requires.home
    (fitting_by g.L.Peer.view c.args.step _ c.args.sized c.args.asked c.args.slots.now fits c.requires.tested) _ _ c.in-Ok-send.ensures)

pub returns-in-Err-send : goal.returns-in-Err-send
returns-in-Err-send g c =
    let fits = c.in-Ok.ensures in
    fails_over g.L.Peer.view c.args.t c.args.step c.args.sized c.args.asked c.args.end c.args.slots.now _ fits c.in-Err-send.bad
    (one_round g.L.Peer.view c.args.t c.args.end c.args.step c.requires.later c.args.asked c.requires.meant c.args.slots.now c.requires.placed c.requires.home
    (fitting_by g.L.Peer.view c.args.step _ c.args.sized c.args.asked c.args.slots.now fits c.requires.tested) _ _ c.in-Err-send.ensures)
