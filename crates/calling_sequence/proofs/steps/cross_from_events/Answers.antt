use Rattle.std.proofs.Common.{refl}
use Rattle.run_model.specs.Steps.{OnStop}
use Rattle.calling_sequence.specs.Course.{GoesOn, Leaving}
use Rattle.calling_sequence.specs.StageOutcomes.{or_ends, way}
use Rattle.calling_sequence.proofs.Onto.{on_silently}
use Rattle.calling_sequence.proofs.Stages.{steps_after}
use Rattle.calling_sequence.proofs.Ways.{ends_so}
use Rattle.calling_sequence.proofs.steps.cross_from_events.Goals as goal

pub returns-in-Err-clause-steps : goal.returns-in-Err-clause-steps
returns-in-Err-clause-steps g c count v olds past may h =
    let w = way c.args.t c.args.n c.args.buffers.now c.args.bound in
    ends_so c.args.experiment.now olds past _ v count _ _ c.end_badly.ensures
    (c.in-Err.ensures.goes w count v olds past (on_silently c.args.experiment.now olds past _ _ v count h (Leaving w) refl (GoesOn w _ _ c.requires.step) may refl))

pub leave-requires-clause-later : goal.leave-requires-clause-later
leave-requires-clause-later g c κs within = c.requires.step.bound.bound.later

pub leave-requires-clause-within : goal.leave-requires-clause-within
leave-requires-clause-within g c κs within =
    c.requires.step.bound.bound.least c.args.experiment.now.plan.stop c.requires.step.bound.before_stop (OnStop refl)

pub returns-in-Ok-clause-steps : goal.returns-in-Ok-clause-steps
returns-in-Ok-clause-steps g c count =
    let w = way c.args.t c.args.n c.args.buffers.now c.args.bound in
    steps_after c.args.experiment.now _ _ _ _ _ _ count count count c.args.t
    (λ v olds past may h. c.in-Ok.ensures.goes w count v olds past (on_silently c.args.experiment.now olds past _ _ v count h (Leaving w) refl (GoesOn w _ _ c.requires.step) may refl)) (or_ends c.leave.result c.leave.new.ending) (c.leave.ensures.steps c.args.n count)
