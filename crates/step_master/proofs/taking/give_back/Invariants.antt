use Rattle.std.proofs.Common.{◌≡◌, ◌≤◌, ◌+◌, ◌++◌, false, is_some, All, map, vec_len, vec_capacity}
use Rattle.std.specs.Vec.Iter.{into_iter_items, into_iter_len}
use Rattle.fmu_peer.specs.CloseAll.{peer_in}
use Rattle.step_master.proofs.taking.give_back.Given as goal

abbrev pub invariant-loop-slot : goal.invariant-loop-slot
invariant-loop-slot g l = record {
  given : map (λ s. peer_in s.held) l.fn.slots.items ≡ l.peers.items ++ map (λ s. peer_in s.held) (into_iter_items l.left);
  spent : All (λ s. is_some s.saved ≡ false) (into_iter_items l.left);
  room : vec_len l.peers + into_iter_len l.left ≤ vec_capacity l.peers;
}

abbrev pub decreases-loop-slot : goal.decreases-loop-slot
decreases-loop-slot g l = into_iter_len l.left
