use Rattle.std.proofs.Common.{rules, ◌<◌, ℤ, Option, ap, ◌∙◌, length, sym, subst, get_or, refl, arith}
use Rattle.std.specs.Prelude.{None, if◌then◌else◌}
use Rattle.std.proofs.lemmas.List.Elements.{All-set}
use Rattle.fmu_peer.specs.CloseAll.{instance_in}
use Rattle.system_model.specs.Values.{value}
use Rattle.slot_calls.specs.Slots.{LiveSlot}
use Rattle.event_iteration.specs.Settings.{before_step, sets_to}
use Rattle.event_iteration.specs.Turns.{MayAsk}
use Rattle.event_iteration.proofs.Setting.{set_same}
use Rattle.event_iteration.proofs.Taking.{component_at, instance_at, port_at, shape_in_slot, slots_many, stopped, took}
use Rattle.event_iteration.proofs.inputs.set_input.Goals as goal

pub bounds-slots-port : goal.bounds-slots-port
bounds-slots-port g c =
    let system = c.args.system.now in
    let is = port_at _ system.ports c.args.p c.index-as_slice-p.result c.as_slice.ensures c.index-as_slice-p.is c.requires.port in
    let there = component_at system c.args.p c.index-as_slice-p.result c.requires.there is in
    let within : c.index-as_slice-p.result.component.0 < length c.args.slots.now = (let m = slots_many (λ s. instance_in g.L.Peer.view s) system c.args.slots.now c.requires.shapes in let w = there.within in omega (arith, m, w)) in
    within

pub offset_bounds-slots-port : goal.offset_bounds-slots-port
offset_bounds-slots-port g c =
    let system = c.args.system.now in
    let is = port_at _ system.ports c.args.p c.index-as_slice-p.result c.as_slice.ensures c.index-as_slice-p.is c.requires.port in
    let there = component_at system c.args.p c.index-as_slice-p.result c.requires.there is in
    let within : c.index-as_slice-p.result.component.0 < length c.args.slots.now = (let m = slots_many (λ s. instance_in g.L.Peer.view s) system c.args.slots.now c.requires.shapes in let w = there.within in omega (arith, m, w)) in
    search rules

pub ask_if-requires-clause-live : goal.ask_if-requires-clause-live
ask_if-requires-clause-live g c κs lives =
    let system = c.args.system.now in
    let is = port_at _ system.ports c.args.p c.index-as_slice-p.result c.as_slice.ensures c.index-as_slice-p.is c.requires.port in
    let there = component_at system c.args.p c.index-as_slice-p.result c.requires.there is in
    let within : c.index-as_slice-p.result.component.0 < length c.args.slots.now = (let m = slots_many (λ s. instance_in g.L.Peer.view s) system c.args.slots.now c.requires.shapes in let w = there.within in omega (arith, m, w)) in
    c.requires.live c.index-as_slice-p.result.component.0 c.index-slots-port.result within

pub ask_if-requires-clause-may : goal.ask_if-requires-clause-may
ask_if-requires-clause-may g c κs lives =
    let system = c.args.system.now in
    let values = c.args.values.now in
    let port = c.index-as_slice-p.result in
    let is = port_at _ system.ports c.args.p port c.as_slice.ensures c.index-as_slice-p.is c.requires.port in
    let there = component_at system c.args.p port c.requires.there is in
    let within : port.component.0 < length c.args.slots.now = (let m = slots_many (λ s. instance_in g.L.Peer.view s) system c.args.slots.now c.requires.shapes in let w = there.within in omega (arith, m, w)) in
    subst (λ call. MayAsk call (instance_in g.L.Peer.view (get_or c.args.slots.now port.component.0 c.index-slots-port.result)).view)
    (sym (c.call_of-call.ensures ∙ ap (λ (v : Option ℤ). if c.has_event_mode-has_event_mode.result then None else sets_to port.role port v) c.at.ensures ∙ ap (λ b. if b then None else sets_to port.role port (value values c.args.p)) (c.has_event_mode-has_event_mode.ensures there.component there.is)))
    (c.requires.may port there.component _ is there.is (instance_at (λ s. instance_in g.L.Peer.view s) c.args.slots.now port.component.0 c.index-slots-port.result within))

pub returns-in-Ok-clause-live : goal.returns-in-Ok-clause-live
returns-in-Ok-clause-live g c = All-set (LiveSlot g.L.Peer.view) c.args.slots.now c.index-as_slice-p.result.component.0 c.ask_if.new.slot c.in-Ok.ensures.live c.requires.live

pub returns-in-Ok-clause-turn : goal.returns-in-Ok-clause-turn
returns-in-Ok-clause-turn g c =
    let system = c.args.system.now in
    let values = c.args.values.now in
    let port = c.index-as_slice-p.result in
    let is = port_at _ system.ports c.args.p port c.as_slice.ensures c.index-as_slice-p.is c.requires.port in
    let there = component_at system c.args.p port c.requires.there is in
    let within : port.component.0 < length c.args.slots.now = (let m = slots_many (λ s. instance_in g.L.Peer.view s) system c.args.slots.now c.requires.shapes in let w = there.within in omega (arith, m, w)) in
    set_same system values c.args.p _ _ _
    (took (λ s. instance_in g.L.Peer.view s) system (before_step values) c.args.p port there.component c.args.slots.now c.index-slots-port.result c.ask_if.new.slot values is there.is within
    (shape_in_slot (λ s. instance_in g.L.Peer.view s) system c.args.slots.now port.component.0 c.index-slots-port.result there.component c.requires.shapes within there.is)
    c.call_of-call.result (c.call_of-call.ensures ∙ ap (λ (v : Option ℤ). if c.has_event_mode-has_event_mode.result then None else sets_to port.role port v) c.at.ensures ∙ ap (λ b. if b then None else sets_to port.role port (value values c.args.p)) (c.has_event_mode-has_event_mode.ensures there.component there.is)) _ c.in-Ok.ensures.asks _ refl)

pub returns-in-Err-clause-turn : goal.returns-in-Err-clause-turn
returns-in-Err-clause-turn g c =
    let system = c.args.system.now in
    let values = c.args.values.now in
    let port = c.index-as_slice-p.result in
    let is = port_at _ system.ports c.args.p port c.as_slice.ensures c.index-as_slice-p.is c.requires.port in
    let there = component_at system c.args.p port c.requires.there is in
    let within : port.component.0 < length c.args.slots.now = (let m = slots_many (λ s. instance_in g.L.Peer.view s) system c.args.slots.now c.requires.shapes in let w = there.within in omega (arith, m, w)) in
    stopped (λ s. instance_in g.L.Peer.view s) system (before_step values) c.args.p port there.component c.args.slots.now c.index-slots-port.result c.ask_if.new.slot values is there.is within
    (shape_in_slot (λ s. instance_in g.L.Peer.view s) system c.args.slots.now port.component.0 c.index-slots-port.result there.component c.requires.shapes within there.is)
    c.call_of-call.result (c.call_of-call.ensures ∙ ap (λ (v : Option ℤ). if c.has_event_mode-has_event_mode.result then None else sets_to port.role port v) c.at.ensures ∙ ap (λ b. if b then None else sets_to port.role port (value values c.args.p)) (c.has_event_mode-has_event_mode.ensures there.component there.is)) c.in-Err.why c.in-Err.ensures.asks (record { component = port.component; why = c.in-Err.why }) refl
