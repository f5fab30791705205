use Rattle.std.proofs.Common.{[], get_or, ap, ◌++◌, refl, sym, subst, ◌∙◌, arith, length, map}
use Rattle.std.proofs.lemmas.List.{length-map}
use Rattle.std.proofs.lemmas.List.Elements.{All-set}
use Rattle.fmi_calls.specs.declared.call.Call.TheVariants as C
use Rattle.fmu_peer.specs.CloseAll.{instance_in, peer_in}
use Rattle.value_types.specs.declared.shape.Shape.{Shape}
use Rattle.system_model.specs.declared.system.Component.{Component}
use Rattle.slot_calls.specs.Carried.{reply_in}
use Rattle.slot_calls.specs.Slots.{LiveSlot, Stands, instances}
use Rattle.slot_calls.specs.Stage.{IsAnswered, has_events, shapes, to_those}
use Rattle.slot_calls.proofs.CallerLemmas.{answered_none, one_log, shape_of, those_all, told_none, at_rest, each_left, each_sent, each_stops, each_told, same_first, same_left, same_more}
use Rattle.event_iteration.specs.Instants.{IsRunning}
use Rattle.event_iteration.specs.Updates.{AreLater}
use Rattle.event_iteration.proofs.EventTimes.{shape_there, tells_all, tells_left, tells_more, tells_none, told_later}
use Rattle.event_iteration.proofs.Fmus.{got}
use Rattle.event_iteration.proofs.Taking.{port_at}
use Rattle.event_iteration.proofs.OverMachines.{leads_for_machines}
use Rattle.event_iteration.proofs.Updating.{component_within, events_in_slot, in_event, told_more}
use Rattle.event_iteration.proofs.updates.update.Goals as goal

pub loop-place-init : goal.loop-place-init
loop-place-init g c =
    let is = instances g.L.Peer.view c.args.slots.now in
    record { rest = same_first c.args.slots.now; live = c.requires.live; log = []; told = told_none is; answered = answered_none (shapes is); updated = refl; events = tells_none c.args.t (shapes is) c.args.schedule.now }

pub loop-place-preserved-then-not-components-place : goal.loop-place-preserved-then-not-components-place
loop-place-preserved-then-not-components-place g c =
    let system = c.args.system.now in
    let i = c.loop-place.invariant in
    let place = c.loop-place.place in
    let component = c.index-components-place.result in
    let of = port_at _ system.components place component c.as_slice-components.ensures c.index-components-place.is (component_within (λ s. instance_in g.L.Peer.view s) system c.args.slots.now c.requires.shapes place c.loop-place-test.true) in
    let slot = (got c.args.slots.now place c.loop-place-test.true).0 in
    record {
      rest = same_left place c.args.slots.now c.loop-place.slots i.rest;
      live = i.live;
      log = i.log;
      told = i.told;
      answered = each_left (λ s. instance_in g.L.Peer.view s) (λ (shape : Shape). C.Update) c.args.slots.now c.loop-place.slots i.log i.told place slot slot i.rest c.loop-place-test.true has_events (events_in_slot (λ s. instance_in g.L.Peer.view s) system c.args.slots.now c.loop-place.slots i.log i.told c.requires.shapes place slot component c.loop-place-test.true of ∙ ap (λ (x : Component). x.shape.has_event_mode) c.index-components-place.is ∙ c.if-not-components-place.true) i.answered;
      updated = i.updated;
      events = tells_left c.args.t place (shapes (map (λ s. instance_in g.L.Peer.view s) c.args.slots.now)) c.args.schedule.now c.loop-place.schedule c.event_at.new.schedule i.log component.shape i.events
          (let many = i.events.many in let all = c.requires.components in let w = component_within (λ s. instance_in g.L.Peer.view s) system c.args.slots.now c.requires.shapes place c.loop-place-test.true in omega (arith, many, all, w))
          (shape_there system (shapes (map (λ s. instance_in g.L.Peer.view s) c.args.slots.now)) c.requires.shapes place component of).0
          (shape_there system (shapes (map (λ s. instance_in g.L.Peer.view s) c.args.slots.now)) c.requires.shapes place component of).1 i.answered.calls_are
          (ap (λ (x : Component). x.shape.has_event_mode) c.index-components-place.is ∙ c.if-not-components-place.true) c.event_at.ensures;
    }

pub send-requires-clause-permitted : goal.send-requires-clause-permitted
send-requires-clause-permitted g c κs within =
    let system = c.args.system.now in
    let i = c.loop-place.invariant in
    let place = c.loop-place.place in
    let component = c.index-components-place.result in
    let of = port_at _ system.components place component c.as_slice-components.ensures c.index-components-place.is (component_within (λ s. instance_in g.L.Peer.view s) system c.args.slots.now c.requires.shapes place c.loop-place-test.true) in
    in_event (g.L.Peer.view (peer_in (get_or c.loop-place.slots place c.index-slots-place.result).held)) (at_rest (Stands IsRunning g.L.Peer.view) place c.args.slots.now c.loop-place.slots c.index-slots-place.result i.rest c.loop-place-test.true c.requires.running) (events_in_slot (λ s. instance_in g.L.Peer.view s) system c.args.slots.now c.loop-place.slots i.log i.told c.requires.shapes place c.index-slots-place.result component c.loop-place-test.true of ∙ ap (λ (x : Component). x.shape.has_event_mode) c.index-components-place.is ∙ c.if-not-components-place.false)

pub returns-in-Err-clause-updates : goal.returns-in-Err-clause-updates
returns-in-Err-clause-updates g c =
    let system = c.args.system.now in
    let i = c.loop-place.invariant in
    let place = c.loop-place.place in
    let component = c.index-components-place.result in
    let of = port_at _ system.components place component c.as_slice-components.ensures c.index-components-place.is (component_within (λ s. instance_in g.L.Peer.view s) system c.args.slots.now c.requires.shapes place c.loop-place-test.true) in
    let one = c.in-Err.ensures.one in
    record {
      stage = record {
        log = i.log ++ one_log place one.exchange;
        told = each_told (λ s. instance_in g.L.Peer.view s) (λ (shape : Shape). C.Update) c.args.slots.now c.loop-place.slots i.log i.told place c.index-slots-place.result c.send.new.slot i.rest c.loop-place-test.true reply_in _ one;
        says = each_stops (λ s. instance_in g.L.Peer.view s) (λ (shape : Shape). C.Update) c.args.slots.now c.loop-place.slots i.log i.told place c.index-slots-place.result c.send.new.slot i.rest c.loop-place-test.true has_events (events_in_slot (λ s. instance_in g.L.Peer.view s) system c.args.slots.now c.loop-place.slots i.log i.told c.requires.shapes place c.index-slots-place.result component c.loop-place-test.true of ∙ ap (λ (x : Component). x.shape.has_event_mode) c.index-components-place.is ∙ c.if-not-components-place.false) reply_in i.answered _ refl one;
      };
      events_are = tt;
    }

pub loop-place-preserved : goal.loop-place-preserved
loop-place-preserved g c =
    let system = c.args.system.now in
    let i = c.loop-place.invariant in
    let place = c.loop-place.place in
    let component = c.index-components-place.result in
    let of = port_at _ system.components place component c.as_slice-components.ensures c.index-components-place.is (component_within (λ s. instance_in g.L.Peer.view s) system c.args.slots.now c.requires.shapes place c.loop-place-test.true) in
    let one = c.in-Ok.ensures.one in
    record {
      rest = same_more place c.args.slots.now c.loop-place.slots c.send.new.slot i.rest;
      live = All-set (LiveSlot g.L.Peer.view) c.loop-place.slots place c.send.new.slot c.in-Ok.ensures.live i.live;
      log = i.log ++ one_log place one.exchange;
      told = each_told (λ s. instance_in g.L.Peer.view s) (λ (shape : Shape). C.Update) c.args.slots.now c.loop-place.slots i.log i.told place c.index-slots-place.result c.send.new.slot i.rest c.loop-place-test.true reply_in _ one;
      answered = each_sent (λ s. instance_in g.L.Peer.view s) (λ (shape : Shape). C.Update) c.args.slots.now c.loop-place.slots i.log i.told place c.index-slots-place.result c.send.new.slot i.rest c.loop-place-test.true has_events (events_in_slot (λ s. instance_in g.L.Peer.view s) system c.args.slots.now c.loop-place.slots i.log i.told c.requires.shapes place c.index-slots-place.result component c.loop-place-test.true of ∙ ap (λ (x : Component). x.shape.has_event_mode) c.index-components-place.is ∙ c.if-not-components-place.false) reply_in i.answered _ one;
      updated = told_more c.loop-place.updated c.with_reply-updated.result i.log place one.exchange c.in-Ok.reply i.updated c.with_reply-updated.ensures.again c.with_reply-updated.ensures.asked one.worth.1;
      events = tells_more c.args.t place (shapes (map (λ s. instance_in g.L.Peer.view s) c.args.slots.now)) c.args.schedule.now c.loop-place.schedule c.event_at-in-Ok.new.schedule i.log component.shape i.events
          (let many = i.events.many in let all = c.requires.components in let w = component_within (λ s. instance_in g.L.Peer.view s) system c.args.slots.now c.requires.shapes place c.loop-place-test.true in omega (arith, many, all, w))
          (shape_there system (shapes (map (λ s. instance_in g.L.Peer.view s) c.args.slots.now)) c.requires.shapes place component of).0
          (shape_there system (shapes (map (λ s. instance_in g.L.Peer.view s) c.args.slots.now)) c.requires.shapes place component of).1 i.answered.calls_are
          (ap (λ (x : Component). x.shape.has_event_mode) c.index-components-place.is ∙ c.if-not-components-place.false) one.exchange c.in-Ok.reply c.event_after.result one.worth.1 c.event_after.ensures c.event_at-in-Ok.ensures;
    }

pub returns-clause-updates : goal.returns-clause-updates
returns-clause-updates g c =
    let i = c.loop-place.invariant in
    let is = instances g.L.Peer.view c.args.slots.now in
    let whole : IsAnswered (shapes is) (to_those has_events (λ (shape : Shape). C.Update) (shapes is)) i.log =
    subst (λ cs. IsAnswered (shapes is) cs i.log)
    (those_all has_events (λ (shape : Shape). C.Update) (shapes is) c.loop-place.place
    (let m = length-map c.args.slots.now (λ s. instance_in g.L.Peer.view s) in let n = length-map is shape_of in let e = c.loop-place-test.false in omega (arith, m, n, e))) i.answered in
    record {
      stage = record { log = i.log; told = i.told; says = (whole, i.updated) };
      events_are = tells_all c.args.t c.loop-place.place (shapes is) c.args.schedule.now c.loop-place.schedule i.log i.events
          (c.requires.components ∙ sym (ap length c.requires.shapes ∙ length-map c.args.system.now.components (λ (x : Component). x.shape)))
          (let m = length-map c.args.slots.now (λ s. instance_in g.L.Peer.view s) in let n = length-map is shape_of in let e = c.loop-place-test.false in omega (arith, m, n, e));
    }

pub returns-clause-leads : goal.returns-clause-leads
returns-clause-leads g c =
    let i = c.loop-place.invariant in
    let is = instances g.L.Peer.view c.args.slots.now in
    let whole : IsAnswered (shapes is) (to_those has_events (λ (shape : Shape). C.Update) (shapes is)) i.log =
    subst (λ cs. IsAnswered (shapes is) cs i.log)
    (those_all has_events (λ (shape : Shape). C.Update) (shapes is) c.loop-place.place
    (let m = length-map c.args.slots.now (λ s. instance_in g.L.Peer.view s) in let n = length-map is shape_of in let e = c.loop-place-test.false in omega (arith, m, n, e))) i.answered in
    leads_for_machines is (instances g.L.Peer.view c.loop-place.slots) i.log i.told c.args.system.now c.requires.shapes whole c.loop-place.updated i.updated c.args.t c.loop-place.schedule.events
    (tells_all c.args.t c.loop-place.place (shapes is) c.args.schedule.now c.loop-place.schedule i.log i.events
    (c.requires.components ∙ sym (ap length c.requires.shapes ∙ length-map c.args.system.now.components (λ (x : Component). x.shape)))
    (let m = length-map c.args.slots.now (λ s. instance_in g.L.Peer.view s) in let n = length-map is shape_of in let e = c.loop-place-test.false in omega (arith, m, n, e)))

pub returns-clause-later : goal.returns-clause-later
returns-clause-later g c =
    let i = c.loop-place.invariant in
    let is = instances g.L.Peer.view c.args.slots.now in
    subst (AreLater c.args.t) (sym (tells_all c.args.t c.loop-place.place (shapes is) c.args.schedule.now c.loop-place.schedule i.log i.events
    (c.requires.components ∙ sym (ap length c.requires.shapes ∙ length-map c.args.system.now.components (λ (x : Component). x.shape)))
    (let m = length-map c.args.slots.now (λ s. instance_in g.L.Peer.view s) in let n = length-map is shape_of in let e = c.loop-place-test.false in omega (arith, m, n, e)))) (told_later c.args.t (shapes is) i.log)

pub event_at-requires : goal.event_at-requires
event_at-requires g c =
    let system = c.args.system.now in
    let place = c.loop-place.place in
    let many = c.loop-place.invariant.events.many in
    let all = c.requires.components in
    let w = component_within (λ s. instance_in g.L.Peer.view s) system c.args.slots.now c.requires.shapes place c.loop-place-test.true in
    omega (arith, many, all, w)

pub event_at-requires-in-Ok : goal.event_at-requires-in-Ok
event_at-requires-in-Ok g c =
    let system = c.args.system.now in
    let place = c.loop-place.place in
    let many = c.loop-place.invariant.events.many in
    let all = c.requires.components in
    let w = component_within (λ s. instance_in g.L.Peer.view s) system c.args.slots.now c.requires.shapes place c.loop-place-test.true in
    omega (arith, many, all, w)
