use Rattle.std.proofs.Common.{rules as arithmetic, ◌<◌, [], List, ℕ, Some, length, map, ap, sym, subst, ◌∙◌}
use Rattle.std.specs.Prelude.{All}
use Rattle.std.proofs.lemmas.List.Elements.{All-set}
use Rattle.fmi_calls.specs.declared.call.Reply.{Reply}
use Rattle.fmu_peer.specs.CloseAll.{instance_in}
use Rattle.fmu_peer.specs.Many.{AreOfOneSort, MayAskAll}
use Rattle.slot_calls.specs.Slots.{LiveSlot}
use Rattle.event_iteration.specs.Waits.{call_in, turned}
use Rattle.event_iteration.proofs.Runs.{inputs_within, may_ask, moves_failed, moves_sent, one_sort, slot_of, waiting_within}
use Rattle.event_iteration.proofs.Turned.{turned_long}
use Rattle.event_iteration.proofs.walk.send_run.Goals as goal

pub make_calls-requires-clause-within : goal.make_calls-requires-clause-within
make_calls-requires-clause-within g c =
    subst (All (λ (p : ℕ). p < length c.args.system.now.ports)) (sym c.as_slice-ports.ensures) (waiting_within (λ s. instance_in g.L.Peer.view s) c.args.slots.now c.requires.gathered)

pub bounds-slots-waiting : goal.bounds-slots-waiting
bounds-slots-waiting g c = slot_of (λ s. instance_in g.L.Peer.view s) c.args.slots.now c.requires.gathered c.requires.sound c.requires.some

pub offset_bounds-slots-waiting : goal.offset_bounds-slots-waiting
offset_bounds-slots-waiting g c =
    let within : c.args.waiting.now.component.0 < length c.args.slots.now = slot_of (λ s. instance_in g.L.Peer.view s) c.args.slots.now c.requires.gathered c.requires.sound c.requires.some in
    search arithmetic

pub send_many-requires-clause-live : goal.send_many-requires-clause-live
send_many-requires-clause-live g c κs lives =
    c.requires.live c.args.waiting.now.component.0 c.index-slots-waiting.result (slot_of (λ s. instance_in g.L.Peer.view s) c.args.slots.now c.requires.gathered c.requires.sound c.requires.some)

pub send_many-requires-clause-sort : goal.send_many-requires-clause-sort
send_many-requires-clause-sort g c κs lives =
    let system = c.args.system.now in
    let rules = g.T.Turns.rules c.args.turns.now system in
    let values = c.args.values.now in
    let so = c.requires.gathered in
    subst AreOfOneSort (sym (c.make_calls.ensures so.gathers.calls (ap (map (call_in system rules values)) c.as_slice-ports.ensures ∙ so.gathers.each)))
    (one_sort (λ s. instance_in g.L.Peer.view s) system rules so.before so.order so.olds so.k c.args.waiting.now values c.args.slots.now so.gathers c.requires.some)

pub send_many-requires-clause-may : goal.send_many-requires-clause-may
send_many-requires-clause-may g c κs lives =
    let system = c.args.system.now in
    let rules = g.T.Turns.rules c.args.turns.now system in
    let values = c.args.values.now in
    let slots = c.args.slots.now in
    let so = c.requires.gathered in
    subst (MayAskAll _ _) (sym (c.make_calls.ensures so.gathers.calls (ap (map (call_in system rules values)) c.as_slice-ports.ensures ∙ so.gathers.each)))
    (may_ask (λ s. instance_in g.L.Peer.view s) system rules so.before so.order so.olds so.k c.args.waiting.now values slots so.gathers c.index-slots-waiting.result
    (slot_of (λ s. instance_in g.L.Peer.view s) slots so c.requires.sound c.requires.some))

pub take_replied-requires-clause-within : goal.take_replied-requires-clause-within
take_replied-requires-clause-within g c =
    subst (All (λ (p : ℕ). p < length c.args.system.now.ports)) (sym c.as_slice-ports.ensures) (waiting_within (λ s. instance_in g.L.Peer.view s) c.args.slots.now c.requires.gathered)

pub take_passed-requires-clause-values : goal.take_passed-requires-clause-values
take_passed-requires-clause-values g c = ap length c.take_replied.ensures ∙ turned_long c.args.system.now (g.T.Turns.rules c.args.turns.now c.args.system.now) c.as_slice-ports.result.now (map (λ (r : Reply). Some r) c.send_many.new.replies) c.args.values.now ∙ c.requires.gathered.gathers.places

pub take_passed-requires-clause-within : goal.take_passed-requires-clause-within
take_passed-requires-clause-within g c =
    subst (All (λ (p : ℕ). p < length c.args.system.now.ports)) (sym c.inputs.ensures) (inputs_within (λ s. instance_in g.L.Peer.view s) c.args.slots.now c.requires.gathered)

pub inputs-requires : goal.inputs-requires
inputs-requires g c = c.requires.gathered.gathers.passed_few

pub returns-in-Ok-clause-live : goal.returns-in-Ok-clause-live
returns-in-Ok-clause-live g c = All-set (LiveSlot g.L.Peer.view) c.args.slots.now c.args.waiting.now.component.0 c.send_many.new.slot c.in-Ok.ensures.live c.requires.live

pub returns-in-Ok-clause-sends : goal.returns-in-Ok-clause-sends
returns-in-Ok-clause-sends g c =
    let system = c.args.system.now in
    let rules = g.T.Turns.rules c.args.turns.now system in
    let w = c.args.waiting.now in
    let values = c.args.values.now in
    let slots = c.args.slots.now in
    moves_sent (λ s. instance_in g.L.Peer.view s) system rules w values c.take_replied.new.values c.take_passed.new.values slots c.index-slots-waiting.result c.send_many.new.slot
    (slot_of (λ s. instance_in g.L.Peer.view s) slots c.requires.gathered c.requires.sound c.requires.some) c.make_calls.new.calls
    (λ before order olds k h. c.make_calls.ensures h.calls (ap (map (call_in system rules values)) c.as_slice-ports.ensures ∙ h.each))
    c.send_many.new.replies c.in-Ok.ensures.places c.in-Ok.ensures.all
    (c.take_replied.ensures ∙ ap (λ (ps : List ℕ). turned system rules ps (map (λ (r : Reply). Some r) c.send_many.new.replies) values) c.as_slice-ports.ensures)
    (c.take_passed.ensures ∙ ap (λ (ps : List ℕ). turned system rules ps [] c.take_replied.new.values) c.inputs.ensures)

pub returns-in-Err-clause-sends : goal.returns-in-Err-clause-sends
returns-in-Err-clause-sends g c =
    let system = c.args.system.now in
    let rules = g.T.Turns.rules c.args.turns.now system in
    let values = c.args.values.now in
    let slots = c.args.slots.now in
    moves_failed (λ s. instance_in g.L.Peer.view s) system rules c.args.waiting.now values slots c.index-slots-waiting.result c.send_many.new.slot
    (slot_of (λ s. instance_in g.L.Peer.view s) slots c.requires.gathered c.requires.sound c.requires.some) c.make_calls.new.calls
    (λ before order olds k h. c.make_calls.ensures h.calls (ap (map (call_in system rules values)) c.as_slice-ports.ensures ∙ h.each)) c.in-Err.why c.in-Err.ensures.stops c.put_bad.new.bad c.put_bad.ensures
