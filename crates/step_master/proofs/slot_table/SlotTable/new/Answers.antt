use Rattle.std.proofs.Common.{arith, ap, sym, ◌≡◌, ◌∙◌, length, map, vec_len}
use Rattle.std.proofs.lemmas.List.{length-map}
use Rattle.fmu_peer.specs.CloseAll.{instance_in}
use Rattle.step_master.specs.FreshInstances.{fresh_instances}
use Rattle.slot_calls.specs.Slots.{instances}
use Rattle.step_master.proofs.CallerLemmas.{length_fresh}
use Rattle.step_master.proofs.slot_table.SlotTable.new.Goals as goal

pub invariant_of-result : goal.invariant_of-result
invariant_of-result g c =
    let view = g.L.Peer.view in
    let slots = c.fill_slots.result.items in
    let views = map view c.args.peers.items in
    let a : length (instances view slots) ≡ length slots = length-map slots (λ s. instance_in view s) in
    let b : length (instances view slots) ≡ length (fresh_instances c.args.components.now views) = ap length c.fill_slots.ensures.slots in
    let n : length views ≡ length c.args.peers.items = length-map c.args.peers.items view in
    let p : vec_len c.args.peers ≡ length c.args.peers.items = c.args.peers.ok.0 in
    let d : length (fresh_instances c.args.components.now views) ≡ length views = length_fresh c.args.components.now views (c.requires.each ∙ p ∙ sym n) in
    record { empty = c.in-Ok.ensures.len; room = omega (arith, a, b, d, n, p, c.len.ensures, c.in-Ok.ensures.capacity) }
