use Rattle.std.proofs.Common.{arith, All, subst, ◌≡◌, [], vec_len, sym, get_or}
use Rattle.std.proofs.lemmas.List.Elements.{All-append, All-cons, All-head, All-nil, All-tail}
use Rattle.std.specs.Vec.Iter.{into_iter_items}
use Rattle.fmi_calls.specs.Next.{fresh}
use Rattle.fmu_peer.specs.CloseAll.{instance_in}
use Rattle.slot_calls.specs.Slots.{LiveSlot}
use Rattle.step_master.proofs.FreshLemmas.{fresh_more}
use Rattle.step_master.proofs.taking.fill_slots.Goals as goal

pub fill_slot-requires-after_bounds : goal.fill_slot-requires-after_bounds
fill_slot-requires-after_bounds g c κs within =
    All-head (λ p. (g.L.Peer.view p).phase ≡ fresh (g.L.Peer.view p).fixed.shape) c.in-Some.peer (into_iter_items c.next.new.self) (subst (All (λ p. (g.L.Peer.view p).phase ≡ fresh (g.L.Peer.view p).fixed.shape)) c.in-Some.ensures.items c.loop-peer.invariant.fresh)

pub loop-peer-preserved : goal.loop-peer-preserved
loop-peer-preserved g c =
    let view = g.L.Peer.view in
    let i = c.loop-peer.invariant in
    let rest = into_iter_items c.next.new.self in
    let len = c.in-Some.ensures.len in
    let more = c.push_reserved.ensures.len in
    let n : c.len.result ≡ vec_len c.loop-peer.slots = c.len.ensures in
    record {
      given = fresh_more (λ s. instance_in view s) view _ c.loop-peer.slots.items c.push_reserved.new.self.items c.args.components.now (vec_len c.loop-peer.slots) _ (into_iter_items c.loop-peer.left) rest c.in-Some.peer c.index-components-len.result c.fill_slot.result
          i.given c.in-Some.ensures.items more (omega (arith, len, i.each)) (subst (λ k. c.index-components-len.result ≡ get_or c.args.components.now k c.index-components-len.result) n c.index-components-len.is)
          c.push_reserved.ensures.items c.fill_slot.ensures.slot;
      live = subst (All (LiveSlot view)) (sym c.push_reserved.ensures.items) (All-append (LiveSlot view) c.loop-peer.slots.items _ i.live (All-cons (LiveSlot view) c.fill_slot.result [] c.fill_slot.ensures.live (All-nil (LiveSlot view))));
      fresh = All-tail (λ p. (view p).phase ≡ fresh (view p).fixed.shape) c.in-Some.peer rest (subst (All (λ p. (view p).phase ≡ fresh (view p).fixed.shape)) c.in-Some.ensures.items i.fresh);
      room = omega (arith, len, more, c.push_reserved.ensures.capacity, i.room);
      each = omega (arith, len, more, i.each);
    }
