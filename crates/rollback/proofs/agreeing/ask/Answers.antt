use Rattle.rollback.proofs.OneAsking.{asked_over, fails_over, fitting_by, unfit_over}
use Rattle.rollback.proofs.agreeing.ask.Goals as goal

pub returns-in-Err : goal.returns-in-Err
returns-in-Err g c =
    unfit_over g.L.Peer.view c.args.t c.args.step c.args.sized c.args.asked c.args.end c.args.slots.now c.args.slots.now c.in-Err.unfit c.in-Err.ensures

pub ask_all-requires-clause-fitting : goal.ask_all-requires-clause-fitting
ask_all-requires-clause-fitting g c κs within =
    fitting_by g.L.Peer.view c.args.step _ c.args.sized c.args.asked c.args.slots.now c.in-Ok.ensures c.requires.tested

pub returns-in-Ok-ask_all : goal.returns-in-Ok-ask_all
returns-in-Ok-ask_all g c =
    asked_over g.L.Peer.view c.args.t c.args.step c.args.sized c.args.asked c.args.end c.args.slots.now _ c.in-Ok.ensures c.in-Ok-ask_all.ensures

pub returns-in-Err-ask_all : goal.returns-in-Err-ask_all
returns-in-Err-ask_all g c =
    fails_over g.L.Peer.view c.args.t c.args.step c.args.sized c.args.asked c.args.end c.args.slots.now _ c.in-Ok.ensures c.in-Err-ask_all.bad c.in-Err-ask_all.ensures
