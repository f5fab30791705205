use Rattle.std.proofs.Common.{◌≡◌, ◌≤◌, ◌+◌, ◌++◌, All, drop, length, map, vec_len, vec_capacity}
use Rattle.std.specs.Vec.Iter.{into_iter_items, into_iter_len}
use Rattle.fmi_calls.specs.Next.{fresh}
use Rattle.step_master.specs.FreshInstances.{fresh_instances}
use Rattle.slot_calls.specs.Slots.{LiveSlot, instances}
use Rattle.step_master.proofs.taking.fill_slots.Given as goal

abbrev pub invariant-loop-peer : goal.invariant-loop-peer
invariant-loop-peer g l =
    let view = g.L.Peer.view in
    record {
      given : instances view l.slots.items ++ fresh_instances (drop (vec_len l.slots) l.components) (map view (into_iter_items l.left)) ≡ fresh_instances l.components (map view l.fn.peers.items);
      live : All (LiveSlot view) l.slots.items;
      fresh : All (λ p. (view p).phase ≡ fresh (view p).fixed.shape) (into_iter_items l.left);
      room : vec_len l.slots + into_iter_len l.left ≤ vec_capacity l.slots;
      each : vec_len l.slots + into_iter_len l.left ≡ length l.components;
    }

abbrev pub decreases-loop-peer : goal.decreases-loop-peer
decreases-loop-peer g l = into_iter_len l.left
