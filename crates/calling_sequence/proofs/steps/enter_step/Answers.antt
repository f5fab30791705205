use Rattle.std.proofs.Common.{List, refl, subst}
use Rattle.fmi_calls.specs.declared.call.Call.TheVariants as C
use Rattle.value_types.specs.declared.shape.Shape.{Shape}
use Rattle.slot_calls.specs.Slots.{instances}
use Rattle.slot_calls.specs.Stage.{Stage, has_events, nothing, to_those}
use Rattle.calling_sequence.specs.Course.{Leaves, Leaving, Left}
use Rattle.calling_sequence.specs.Place.{IsSettled, IsStepping}
use Rattle.calling_sequence.proofs.Phases.{enter_step_leads, enter_step_stays}
use Rattle.calling_sequence.proofs.Stages.{by_stage, still_those}
use Rattle.calling_sequence.proofs.steps.enter_step.Goals as goal

pub returns-clause-ready : goal.returns-clause-ready
returns-clause-ready g c =
    let e = c.args.experiment.now in
    still_those g.L.Peer.view e (IsSettled c.args.t) c.args.slots.now _ c.requires (IsStepping c.args.t) has_events (λ shape. C.EnterStep) (λ v w x p asked l is. enter_step_leads c.args.t e.plan.stop e.plan.step v w x p l is)
    (enter_step_stays c.args.t e.plan.stop e.plan.step) nothing c.each.result c.each.ensures.stage c.each.ensures.live

pub returns-clause-goes : goal.returns-clause-goes
returns-clause-goes g c w count =
    by_stage c.args.experiment.now (Leaving w) (λ x. Left w) (λ x. refl) (λ x extent. tt) _ _ count c.requires.shapes_are (λ ss. to_those has_events (λ shape. C.EnterStep) ss) nothing refl (λ x log done is. Leaves w _ log) c.each.result c.each.ensures.stage

pub returns-clause-stage : goal.returns-clause-stage
returns-clause-stage g c = subst (λ (ss : List Shape). Stage (to_those has_events (λ shape. C.EnterStep) ss) nothing (instances g.L.Peer.view c.args.slots.now) (instances g.L.Peer.view c.each.new.slots) c.each.result) c.requires.shapes_are c.each.ensures.stage
