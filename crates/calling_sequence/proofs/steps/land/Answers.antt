use Rattle.std.proofs.Common.{List, Ok, false, refl, sym, ◌∙◌}
use Rattle.value_types.specs.declared.shape.Shape.{Shape}
use Rattle.fmi_calls.specs.declared.call.Call.TheVariants as C
use Rattle.slot_calls.specs.Stage.{has_events, nothing, to_those}
use Rattle.calling_sequence.specs.Course.{Arrives, Before, Stepped}
use Rattle.calling_sequence.specs.Place.{IsAt, IsStepping}
use Rattle.calling_sequence.specs.StageOutcomes.{or_ends, stepped_to}
use Rattle.calling_sequence.proofs.Phases.{enter_event_leads, enter_event_stays}
use Rattle.calling_sequence.proofs.Stages.{by_stage, still_those}
use Rattle.calling_sequence.proofs.Unasked.{none_staged}
use Rattle.calling_sequence.proofs.Ways.{asked_by_step, crosses_plain, ends_so, stepped_there}
use Rattle.calling_sequence.proofs.steps.land.Goals as goal

pub returns-then-agreed-clause-crosses : goal.returns-then-agreed-clause-crosses
returns-then-agreed-clause-crosses g c s ticks count begins v olds past h =
    ends_so c.args.experiment.now olds past _ v count _ _ c.end_asked.ensures
    (asked_by_step c.args.experiment.now (record s { t = c.args.agreed.point; n = 0 }) c.args.agreed.asked olds past _ v count h c.if-agreed.true)

pub returns-then-has_events-clause-crosses : goal.returns-then-has_events-clause-crosses
returns-then-has_events-clause-crosses g c s ticks count begins =
    crosses_plain c.args.experiment.now (record s { t = c.args.agreed.point; n = 0 }) c.args.agreed.asked c.if-agreed.false _ _ _ count (or_ends c.land_in_events.result c.land_in_events.new.ending) (c.land_in_events.ensures.crosses s ticks count begins)

pub returns-else-has_events-clause-ready : goal.returns-else-has_events-clause-ready
returns-else-has_events-clause-ready g c =
    let e = c.args.experiment.now in
    still_those g.L.Peer.view e (IsStepping c.args.agreed.point) c.args.slots.now c.args.slots.now c.requires (IsAt c.args.agreed.point) has_events (λ shape. C.EnterEvent) (λ v w x p asked l is. enter_event_leads c.args.agreed.point e.plan.stop e.plan.step v w x p asked l is)
    (enter_event_stays c.args.agreed.point e.plan.stop e.plan.step) nothing (Ok tt) (none_staged g.L.Peer.view has_events (λ shape. C.EnterEvent) c.args.slots.now (sym c.has_events.ensures ∙ c.if-has_events.false)) c.requires.live

pub returns-else-has_events-clause-crosses : goal.returns-else-has_events-clause-crosses
returns-else-has_events-clause-crosses g c s ticks count begins v olds past h =
    let e = c.args.experiment.now in
    let stage = none_staged g.L.Peer.view has_events (λ shape. C.EnterEvent) c.args.slots.now (sym c.has_events.ensures ∙ c.if-has_events.false) in
    by_stage e (Stepped (record s { t = c.args.agreed.point; n = 0 }) false) (λ x. Before (record s { t = c.args.agreed.point; n = 0 }) (ticks c.args.agreed.point)) (λ x. refl) (λ x extent. tt) _ _ count c.requires.shapes_are (λ (ss : List Shape). to_those has_events (λ shape. C.EnterEvent) ss) nothing refl (λ x log done is. Arrives (record s { t = c.args.agreed.point; n = 0 }) _ log (ticks c.args.agreed.point) begins) (Ok tt) stage v olds past
    (stepped_there e (record s { t = c.args.agreed.point; n = 0 }) c.args.agreed.asked olds past _ v count h c.if-agreed.false)
