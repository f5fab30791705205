use Rattle.std.proofs.Common.{List, Ok, refl, sym, ◌∙◌}
use Rattle.run_model.specs.Steps.{OnStop}
use Rattle.value_types.specs.declared.shape.Shape.{Shape}
use Rattle.fmi_calls.specs.declared.call.Call.TheVariants as C
use Rattle.slot_calls.specs.Stage.{has_events, nothing, to_those}
use Rattle.calling_sequence.specs.Course.{GoesOn, Leaves, Leaving, Left}
use Rattle.calling_sequence.specs.Place.{IsSettled, IsStepping}
use Rattle.calling_sequence.specs.StageOutcomes.{or_ends, way}
use Rattle.calling_sequence.proofs.Onto.{on_silently}
use Rattle.calling_sequence.proofs.Phases.{enter_step_leads, enter_step_stays}
use Rattle.calling_sequence.proofs.Stages.{by_stage, steps_after, still_those}
use Rattle.calling_sequence.proofs.Unasked.{none_staged}
use Rattle.calling_sequence.proofs.steps.cross.Goals as goal

pub leave-requires-clause-ready : goal.leave-requires-clause-ready
leave-requires-clause-ready g c κs within =
    let e = c.args.experiment.now in
    still_those g.L.Peer.view e (IsSettled c.args.t) c.args.slots.now c.args.slots.now c.requires.ready (IsStepping c.args.t) has_events (λ shape. C.EnterStep) (λ v w x p asked l is. enter_step_leads c.args.t e.plan.stop e.plan.step v w x p l is)
    (enter_step_stays c.args.t e.plan.stop e.plan.step) nothing (Ok tt) (none_staged g.L.Peer.view has_events (λ shape. C.EnterStep) c.args.slots.now (sym c.has_events.ensures ∙ c.if-has_events.false)) c.requires.ready.live

pub leave-requires-clause-later : goal.leave-requires-clause-later
leave-requires-clause-later g c κs within = c.requires.step.bound.bound.later

pub leave-requires-clause-within : goal.leave-requires-clause-within
leave-requires-clause-within g c κs within =
    c.requires.step.bound.bound.least c.args.experiment.now.plan.stop c.requires.step.bound.before_stop (OnStop refl)

pub returns-else-has_events-clause-steps : goal.returns-else-has_events-clause-steps
returns-else-has_events-clause-steps g c count =
    let e = c.args.experiment.now in
    let w = way c.args.t c.args.n c.args.buffers.now c.args.bound in
    let stage = none_staged g.L.Peer.view has_events (λ shape. C.EnterStep) c.args.slots.now (sym c.has_events.ensures ∙ c.if-has_events.false) in
    steps_after e _ _ _ _ _ _ count count count c.args.t
    (λ v olds past may h. by_stage e (Leaving w) (λ x. Left w) (λ x. refl) (λ x extent. tt) _ _ count c.requires.ready.shapes_are (λ (ss : List Shape). to_those has_events (λ shape. C.EnterStep) ss) nothing refl (λ x log done is. Leaves w _ log) (Ok tt) stage v olds past (on_silently e olds past _ _ v count h (Leaving w) refl (GoesOn w _ _ c.requires.step) may refl)) (or_ends c.leave.result c.leave.new.ending) (c.leave.ensures.steps c.args.n count)
