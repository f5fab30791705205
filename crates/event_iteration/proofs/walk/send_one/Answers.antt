use Rattle.std.proofs.Common.{rules as arithmetic, ◌<◌, [], ◌∷◌, List, ℕ, Some, length, map, ap, sym, subst, ◌∙◌, arith}
use Rattle.std.specs.Prelude.{All}
use Rattle.std.proofs.lemmas.List.Elements.{All-set}
use Rattle.fmi_calls.specs.declared.call.Reply.{Reply}
use Rattle.fmu_peer.specs.CloseAll.{instance_in}
use Rattle.fmu_peer.specs.Many.{AreOfOneSort, MayAskAll}
use Rattle.slot_calls.specs.Slots.{LiveSlot}
use Rattle.event_iteration.specs.Waits.{turned}
use Rattle.event_iteration.proofs.Runs.{alone, inputs_within, may_ask, moves_failed, moves_sent, one_sort, slot_of, waiting_within}
use Rattle.event_iteration.proofs.Turned.{turned_long}
use Rattle.event_iteration.proofs.walk.send_one.Goals as goal

pub bounds-slots-waiting : goal.bounds-slots-waiting
bounds-slots-waiting g c = slot_of (λ s. instance_in g.L.Peer.view s) c.args.slots.now c.requires.gathered c.requires.sound (omega (arith, c.requires.one))

pub offset_bounds-slots-waiting : goal.offset_bounds-slots-waiting
offset_bounds-slots-waiting g c =
    let within : c.args.waiting.now.component.0 < length c.args.slots.now = slot_of (λ s. instance_in g.L.Peer.view s) c.args.slots.now c.requires.gathered c.requires.sound (omega (arith, c.requires.one)) in
    search arithmetic

pub send_many-requires-clause-live : goal.send_many-requires-clause-live
send_many-requires-clause-live g c κs lives =
    c.requires.live c.args.waiting.now.component.0 c.index-slots-waiting.result (slot_of (λ s. instance_in g.L.Peer.view s) c.args.slots.now c.requires.gathered c.requires.sound (omega (arith, c.requires.one)))

pub send_many-requires-clause-sort : goal.send_many-requires-clause-sort
send_many-requires-clause-sort g c κs lives =
    let system = c.args.system.now in
    let rules = g.T.Turns.rules c.args.turns.now system in
    let values = c.args.values.now in
    let slots = c.args.slots.now in
    let so = c.requires.gathered in
    subst AreOfOneSort (alone (λ s. instance_in g.L.Peer.view s) system rules so.before so.order so.olds so.k c.args.waiting.now values slots so.gathers c.requires.one)
    (one_sort (λ s. instance_in g.L.Peer.view s) system rules so.before so.order so.olds so.k c.args.waiting.now values slots so.gathers (omega (arith, c.requires.one)))

pub send_many-requires-clause-may : goal.send_many-requires-clause-may
send_many-requires-clause-may g c κs lives =
    let system = c.args.system.now in
    let rules = g.T.Turns.rules c.args.turns.now system in
    let values = c.args.values.now in
    let slots = c.args.slots.now in
    let so = c.requires.gathered in
    subst (MayAskAll _ _) (alone (λ s. instance_in g.L.Peer.view s) system rules so.before so.order so.olds so.k c.args.waiting.now values slots so.gathers c.requires.one)
    (may_ask (λ s. instance_in g.L.Peer.view s) system rules so.before so.order so.olds so.k c.args.waiting.now values slots so.gathers c.index-slots-waiting.result
    (slot_of (λ s. instance_in g.L.Peer.view s) slots so c.requires.sound (omega (arith, c.requires.one))))

pub take_replied-requires-clause-within : goal.take_replied-requires-clause-within
take_replied-requires-clause-within g c =
    subst (All (λ (p : ℕ). p < length c.args.system.now.ports)) (sym c.as_slice-ports.ensures) (waiting_within (λ s. instance_in g.L.Peer.view s) c.args.slots.now c.requires.gathered)

pub take_replied-requires-clause-places : goal.take_replied-requires-clause-places
take_replied-requires-clause-places g c = c.in-Ok.ensures.places ∙ sym (ap length c.as_slice-ports.ensures ∙ c.requires.gathered.gathers.many ∙ c.requires.one)

pub take_passed-requires-clause-values : goal.take_passed-requires-clause-values
take_passed-requires-clause-values g c = ap length c.take_replied.ensures ∙ turned_long c.args.system.now (g.T.Turns.rules c.args.turns.now c.args.system.now) c.as_slice-ports.result.now (map (λ (r : Reply). Some r) c.send_many.new.replies) c.args.values.now ∙ c.requires.gathered.gathers.places

pub take_passed-requires-clause-within : goal.take_passed-requires-clause-within
take_passed-requires-clause-within g c =
    subst (All (λ (p : ℕ). p < length c.args.system.now.ports)) (sym c.inputs.ensures) (inputs_within (λ s. instance_in g.L.Peer.view s) c.args.slots.now c.requires.gathered)

pub inputs-requires : goal.inputs-requires
inputs-requires g c = c.requires.gathered.gathers.passed_few

pub returns-in-Ok-clause-live : goal.returns-in-Ok-clause-live
returns-in-Ok-clause-live g c = All-set (LiveSlot g.L.Peer.view) c.args.slots.now c.args.waiting.now.component.0 c.send_many.new.slot c.in-Ok.ensures.live c.requires.live

pub returns-in-Ok-clause-sends : goal.returns-in-Ok-clause-sends
returns-in-Ok-clause-sends g c =
    let system = c.args.system.now in
    let rules = g.T.Turns.rules c.args.turns.now system in
    let w = c.args.waiting.now in
    let values = c.args.values.now in
    let slots = c.args.slots.now in
    moves_sent (λ s. instance_in g.L.Peer.view s) system rules w values c.take_replied.new.values c.take_passed.new.values slots c.index-slots-waiting.result c.send_many.new.slot
    (slot_of (λ s. instance_in g.L.Peer.view s) slots c.requires.gathered c.requires.sound (omega (arith, c.requires.one))) (w.first ∷ [])
    (λ before order olds k h. sym (alone (λ s. instance_in g.L.Peer.view s) system rules before order olds k w values slots h c.requires.one))
    c.send_many.new.replies c.in-Ok.ensures.places c.in-Ok.ensures.all
    (c.take_replied.ensures ∙ ap (λ (ps : List ℕ). turned system rules ps (map (λ (r : Reply). Some r) c.send_many.new.replies) values) c.as_slice-ports.ensures)
    (c.take_passed.ensures ∙ ap (λ (ps : List ℕ). turned system rules ps [] c.take_replied.new.values) c.inputs.ensures)

pub returns-in-Err-clause-sends : goal.returns-in-Err-clause-sends
returns-in-Err-clause-sends g c =
    let system = c.args.system.now in
    let rules = g.T.Turns.rules c.args.turns.now system in
    let w = c.args.waiting.now in
    let values = c.args.values.now in
    let slots = c.args.slots.now in
    moves_failed (λ s. instance_in g.L.Peer.view s) system rules w values slots c.index-slots-waiting.result c.send_many.new.slot
    (slot_of (λ s. instance_in g.L.Peer.view s) slots c.requires.gathered c.requires.sound (omega (arith, c.requires.one))) (w.first ∷ [])
    (λ before order olds k h. sym (alone (λ s. instance_in g.L.Peer.view s) system rules before order olds k w values slots h c.requires.one)) c.in-Err.why c.in-Err.ensures.stops c.put_bad.new.bad c.put_bad.ensures
