use Rattle.calling_sequence.proofs.AgreedSteps.{are_ready, crosses_badly, crosses_well, have_stepped, may_be_saved}
use Rattle.calling_sequence.proofs.Ways.{ends_so}
use Rattle.calling_sequence.proofs.steps.step.Goals as goal

pub agreed_step-requires-clause-ready : goal.agreed_step-requires-clause-ready
agreed_step-requires-clause-ready g c κs lives = are_ready g.L.Peer.view c.args.experiment.now c.args.t c.args.slots.now c.requires.ready c.args.bound c.requires.within

pub agreed_step-requires-clause-saves : goal.agreed_step-requires-clause-saves
agreed_step-requires-clause-saves g c κs lives = may_be_saved g.L.Peer.view c.args.experiment.now c.args.t c.args.slots.now c.requires.ready

pub returns-in-Some-clause-ready : goal.returns-in-Some-clause-ready
returns-in-Some-clause-ready g c = have_stepped g.L.Peer.view c.args.experiment.now c.args.t c.args.slots.now c.requires.ready c.args.bound c.in-Some.agreed _ c.in-Some.ensures.steps c.in-Some.ensures.stepped

pub returns-in-Some-clause-steps : goal.returns-in-Some-clause-steps
returns-in-Some-clause-steps g c s count = crosses_well g.L.Peer.view c.args.experiment.now c.args.t c.args.slots.now c.requires.ready c.args.bound _ s count c.in-Some.agreed c.in-Some.ensures.steps

pub returns-in-None-clause-steps : goal.returns-in-None-clause-steps
returns-in-None-clause-steps g c s count v olds past may h =
    ends_so c.args.experiment.now olds past _ v count _ _ c.end_unmade.ensures
    (crosses_badly g.L.Peer.view c.args.experiment.now c.args.t c.args.slots.now c.requires.ready c.args.bound c.agreed_step.new.slots s count c.requires.fit c.agreed_step.new.unmade c.in-None.ensures.steps v olds past may h)
