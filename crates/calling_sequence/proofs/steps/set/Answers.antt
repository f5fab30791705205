use Rattle.std.proofs.Common.{refl}
use Rattle.event_iteration.specs.Settings.{before_step, port_order}
use Rattle.calling_sequence.specs.Course.{Departing, Left, Sets, Way}
use Rattle.calling_sequence.specs.Place.{IsDeparting, IsStepping}
use Rattle.calling_sequence.proofs.Chains.{IsSet}
use Rattle.calling_sequence.proofs.Phases.{set_keeps, unset_at}
use Rattle.calling_sequence.proofs.Stages.{by_walk, keeping_walk, weaker}
use Rattle.calling_sequence.proofs.Walks.{setting_goodly}
use Rattle.calling_sequence.proofs.steps.set.Goals as goal

pub set_inputs-requires-clause-unset : goal.set_inputs-requires-clause-unset
set_inputs-requires-clause-unset g c κs lives = λ k d w. unset_at c.args.t _ _ _ (c.requires.ready.stand k d w)

pub returns-clause-ready : goal.returns-clause-ready
returns-clause-ready g c =
    let e = c.args.experiment.now in
    let t = c.args.t in
    let values = c.args.buffers.now.values in
    keeping_walk g.L.Peer.view e (IsDeparting t) c.args.slots.now _ (weaker g.L.Peer.view e (IsStepping t) (IsDeparting t) (λ v h. h.departing) c.args.slots.now c.requires.ready) (λ shape. IsSet) (set_keeps t e.plan.stop e.plan.step) (before_step values) values (port_order e.system) values
    (λ log. setting_goodly e.system values (port_order e.system) values log values) c.set_inputs.result c.set_inputs.ensures.walks c.set_inputs.ensures.live

pub returns-clause-goes : goal.returns-clause-goes
returns-clause-goes g c s to count =
    let e = c.args.experiment.now in
    let values = c.args.buffers.now.values in
    let w : Way = record { s = record s { values = values }; to = to } in
    by_walk e (Left w) (Departing w) refl (λ extent. tt) _ _ count (before_step values) values (port_order e.system) values refl (λ log. Sets w _ log) c.set_inputs.result c.set_inputs.ensures.walks
