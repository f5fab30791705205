use Rattle.std.proofs.Common.{◌<◌, true, refl}
use Rattle.event_iteration.specs.Clocks.{is_due_at}
use Rattle.calling_sequence.specs.StageOutcomes.{or_ends, spot}
use Rattle.calling_sequence.specs.Ready.{AreTimed}
use Rattle.calling_sequence.proofs.ScheduleSteps.{begins, timed_after}
use Rattle.calling_sequence.proofs.Stages.{steps_before}
use Rattle.calling_sequence.proofs.Ways.{if_there, unfit_there}
use Rattle.calling_sequence.proofs.steps.step_on.Goals as goal

pub returns-in-None-clause-steps : goal.returns-in-None-clause-steps
returns-in-None-clause-steps g c count v olds past may h = unfit_there c.args.experiment.now (spot c.args.t c.args.n c.args.buffers.now) c.bound_from.new.ending c.in-None.ensures.unfit olds past may _ v count h

pub returns-in-Some-cross-clause-later : goal.returns-in-Some-cross-clause-later
returns-in-Some-cross-clause-later g c = if_there c.land.result _ (λ point. c.args.t < point) c.land.ensures.point c.in-Some-cross.ensures.later

pub returns-in-Some-cross-clause-timed : goal.returns-in-Some-cross-clause-timed
returns-in-Some-cross-clause-timed g c =
    let e = c.args.experiment.now in
    let b = c.args.buffers.now in
    let done = c.requires.done in
    let later = c.in-Some-cross.ensures.later in
    if_there c.land.result _ (λ point. AreTimed e point 0 true b) c.land.ensures.point (timed_after e c.args.t _ _ c.in-Some-cross.agreed.point b c.requires.ready.may.plan done.timed done.unarmed c.in-Some.ensures.step.bound later c.in-Some-cross.ensures.within)

pub returns-in-Some-cross-clause-steps : goal.returns-in-Some-cross-clause-steps
returns-in-Some-cross-clause-steps g c count =
    let e = c.args.experiment.now in
    let b = c.args.buffers.now in
    let done = c.requires.done in
    let m = c.in-Some-cross.agreed.point in
    let timed = timed_after e c.args.t _ _ m b c.requires.ready.may.plan done.timed done.unarmed c.in-Some.ensures.step.bound c.in-Some-cross.ensures.later c.in-Some-cross.ensures.within in
    let begun = begins e.system e.plan b.schedule m 0 true b.values timed.places timed.starts timed.stands refl in
    steps_before e _ _ _ _ _ _ count count count c.args.t (c.in-Some-cross.ensures.steps count) (or_ends c.land.result c.land.new.ending) (c.land.ensures.crosses (spot c.args.t c.args.n b) (λ point. is_due_at b.schedule point) count begun)
