use Rattle.std.proofs.Common.{◌<◌, [], true, refl}
use Rattle.event_iteration.specs.Clocks.{is_due_at}
use Rattle.calling_sequence.specs.Course.{Left, Resumes}
use Rattle.calling_sequence.specs.StageOutcomes.{or_ends, spot, way}
use Rattle.calling_sequence.specs.Ready.{AreTimed}
use Rattle.calling_sequence.proofs.ScheduleSteps.{begins, timed_after}
use Rattle.calling_sequence.proofs.Stages.{steps_before}
use Rattle.calling_sequence.proofs.Ways.{if_there, unfit_at_first}
use Rattle.calling_sequence.proofs.steps.first_step.Goals as goal
use Rattle.calling_sequence.proofs.Onto.{on_silently}
use Rattle.run_model.specs.Steps.{OnStop}

pub returns-in-None-clause-steps : goal.returns-in-None-clause-steps
returns-in-None-clause-steps g c count v olds past may h = unfit_at_first c.args.experiment.now (spot c.args.t 0 c.args.buffers.now) c.bound_from.new.ending c.in-None.ensures.unfit olds past may _ v count h

pub leave-requires-clause-later : goal.leave-requires-clause-later
leave-requires-clause-later g c κs within = c.in-Some.ensures.step.bound.bound.later

pub leave-requires-clause-within : goal.leave-requires-clause-within
leave-requires-clause-within g c κs within =
    c.in-Some.ensures.step.bound.bound.least c.args.experiment.now.plan.stop c.in-Some.ensures.step.bound.before_stop (OnStop refl)

pub returns-in-Some-leave-clause-later : goal.returns-in-Some-leave-clause-later
returns-in-Some-leave-clause-later g c = if_there c.land.result _ (λ point. c.args.t < point) c.land.ensures.point c.in-Some-leave.ensures.later

pub returns-in-Some-leave-clause-timed : goal.returns-in-Some-leave-clause-timed
returns-in-Some-leave-clause-timed g c =
    let e = c.args.experiment.now in
    let b = c.args.buffers.now in
    let done = c.requires.done in
    let later = c.in-Some-leave.ensures.later in
    if_there c.land.result _ (λ point. AreTimed e point 0 true b) c.land.ensures.point (timed_after e c.args.t _ _ c.in-Some-leave.agreed.point b c.requires.ready.may.plan done.timed done.unarmed c.in-Some.ensures.step.bound later c.in-Some-leave.ensures.within)

pub returns-in-Some-leave-clause-steps : goal.returns-in-Some-leave-clause-steps
returns-in-Some-leave-clause-steps g c count =
    let e = c.args.experiment.now in
    let b = c.args.buffers.now in
    let done = c.requires.done in
    let m = c.in-Some-leave.agreed.point in
    let w = way c.args.t 0 b c.in-Some.bound in
    let timed = timed_after e c.args.t _ _ m b c.requires.ready.may.plan done.timed done.unarmed c.in-Some.ensures.step.bound c.in-Some-leave.ensures.later c.in-Some-leave.ensures.within in
    let begun = begins e.system e.plan b.schedule m 0 true b.values timed.places timed.starts timed.stands refl in
    steps_before e _ _ _ _ _ _ count count count c.args.t
    (λ v olds past may h. c.in-Some-leave.ensures.steps 0 count v olds past may (on_silently e olds past _ _ v count h (Left w) refl (Resumes w [] [] c.in-Some.ensures.step) tt refl)) (or_ends c.land.result c.land.new.ending)
    (c.land.ensures.crosses (spot c.args.t 0 b) (λ point. is_due_at b.schedule point) count begun)

pub returns-in-None-leave-clause-steps : goal.returns-in-None-leave-clause-steps
returns-in-None-leave-clause-steps g c count v olds past may h =
    let e = c.args.experiment.now in
    let w = way c.args.t 0 c.args.buffers.now c.in-Some.bound in
    c.in-None-leave.ensures.steps 0 count v olds past may (on_silently e olds past _ _ v count h (Left w) refl (Resumes w [] [] c.in-Some.ensures.step) tt refl)
