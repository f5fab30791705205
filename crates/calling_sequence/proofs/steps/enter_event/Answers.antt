use Rattle.std.proofs.Common.{false, refl}
use Rattle.fmi_calls.specs.declared.call.Call.TheVariants as C
use Rattle.slot_calls.specs.Stage.{has_events, nothing, to_those}
use Rattle.calling_sequence.specs.Course.{Arrives, Before, Stepped}
use Rattle.calling_sequence.specs.Place.{IsAt, IsStepping}
use Rattle.calling_sequence.proofs.Phases.{enter_event_leads, enter_event_stays}
use Rattle.calling_sequence.proofs.Stages.{by_stage, still_those}
use Rattle.calling_sequence.proofs.steps.enter_event.Goals as goal

pub returns-clause-ready : goal.returns-clause-ready
returns-clause-ready g c =
    let e = c.args.experiment.now in
    still_those g.L.Peer.view e (IsStepping c.args.t) c.args.slots.now _ c.requires (IsAt c.args.t) has_events (λ shape. C.EnterEvent) (λ v w x p asked l is. enter_event_leads c.args.t e.plan.stop e.plan.step v w x p asked l is)
    (enter_event_stays c.args.t e.plan.stop e.plan.step) nothing c.each.result c.each.ensures.stage c.each.ensures.live

pub returns-clause-goes : goal.returns-clause-goes
returns-clause-goes g c s ticks count begins =
    by_stage c.args.experiment.now (Stepped s false) (λ x. Before (record s { n = 0 }) ticks) (λ x. refl) (λ x extent. tt) _ _ count c.requires.shapes_are (λ ss. to_those has_events (λ shape. C.EnterEvent) ss) nothing refl (λ x log done is. Arrives s _ log ticks begins) c.each.result c.each.ensures.stage
