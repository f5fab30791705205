use Rattle.rollback.proofs.Resting.{unfit_counted}
use Rattle.rollback.proofs.agreeing.first_unfit.Goals as goal

pub returns-else-size-step-clause-first : goal.returns-else-size-step-clause-first
returns-else-size-step-clause-first g c = unfit_counted g.L.Peer.view c.args.who c.args.step c.args.size c.args.slots.now c.if-size-step.false c.first_unvaried.result c.first_unvaried.ensures.first
