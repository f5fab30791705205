use Rattle.std.proofs.Common.{List, refl, sym, subst, ap, length, map, ◌∙◌}
use Rattle.fmu_peer.specs.CloseAll.{instance_in}
use Rattle.value_types.specs.declared.shape.Shape.{Shape}
use Rattle.slot_calls.specs.Stage.{IsAnswered, StopsAt}
use Rattle.slot_calls.specs.Slots.{instances}
use Rattle.calling_sequence.specs.Course.{FromHeld}
use Rattle.calling_sequence.specs.StageOutcomes.{spot}
use Rattle.calling_sequence.specs.Holding.{Back, NotBack}
use Rattle.calling_sequence.specs.Here.{HoldsEnds, Past}
use Rattle.calling_sequence.specs.Calls.{restoring}
use Rattle.calling_sequence.proofs.Ended.{at_hold}
use Rattle.calling_sequence.proofs.Ways.{concluded}
use Rattle.calling_sequence.proofs.Restoring.{seats_are, shapes_bare}
use Rattle.calling_sequence.proofs.resuming.resume_slots.Goals as goal

pub restore_each-requires-clause-each : goal.restore_each-requires-clause-each
restore_each-requires-clause-each g c κs within = c.requires.each ∙ sym (seats_are g.L.Peer.view c.args.experiment.now c.args.slots.now c.requires.ready.shapes_are)

pub conclude-requires : goal.conclude-requires
conclude-requires g c = subst HoldsEnds (sym (ap length c.deref_mut.ensures.value ∙ c.follow-broken.ensures.text)) c.requires.done.timed.holds.end

pub conclude-requires-in-Err : goal.conclude-requires-in-Err
conclude-requires-in-Err g c = subst HoldsEnds (sym (ap length c.deref_mut-in-Err.ensures.value)) c.requires.done.timed.holds.end

pub returns-in-Ok : goal.returns-in-Ok
returns-in-Ok g c =
    let view = g.L.Peer.view in
    let e = c.args.experiment.now in
    let s = spot c.args.point 0 c.args.buffers.now in
    let mids = instances view c.restore_each.new.slots in
    let past : Past = record { sink = g.O.Sink.view c.args.out.now; extent = FromHeld s } in
    let start = at_hold e s mids (g.O.Sink.view c.args.out.now) _ c.requires.none in
    Back mids c.in-Ok.ensures.stage.log c.in-Ok.ensures.stage.told
    (subst (λ (ss : List Shape). IsAnswered ss (restoring c.args.point e.plan.stop (map length c.args.states.now)) c.in-Ok.ensures.stage.log) (shapes_bare (λ s. instance_in view s) c.args.slots.now ∙ c.requires.ready.shapes_are) c.in-Ok.ensures.stage.says.0)
    c.in-Ok.ensures.restores
    (concluded e mids past _ _ _ _ c.follow-broken.result (c.follow-broken.ensures.breaks mids past (record { puts_them = refl; leaves = λ t below. tt }) start) c.conclude.result c.conclude.ensures)

pub returns-in-Err : goal.returns-in-Err
returns-in-Err g c =
    let view = g.L.Peer.view in
    let e = c.args.experiment.now in
    NotBack c.in-Err.bad c.in-Err.ensures.stage.log c.in-Err.ensures.stage.told
    (subst (λ (ss : List Shape). StopsAt ss (restoring c.args.point e.plan.stop (map length c.args.states.now)) c.in-Err.bad c.in-Err.ensures.stage.log) (shapes_bare (λ s. instance_in view s) c.args.slots.now ∙ c.requires.ready.shapes_are) c.in-Err.ensures.stage.says)
    c.in-Err.ensures.restores c.requires.none c.conclude-in-Err.ensures
