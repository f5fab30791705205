use Rattle.std.proofs.Common.{◌≡◌, ◌≤◌, [], Ok, take, vec_capacity}
use Rattle.std.specs.Prelude.{All}
use Rattle.slot_calls.specs.Slots.{LiveSlot, instances}
use Rattle.slot_calls.specs.Stage.{Stage, nothing, shapes}
use Rattle.slot_calls.proofs.CallerLemmas.{SameFrom}
use Rattle.calling_sequence.proofs.InTurn.{in_turn_from, keeping_of}
use Rattle.calling_sequence.proofs.KeptStates.{KeptSoFar}
use Rattle.calling_sequence.proofs.holding.keep_each.Given as goal

abbrev pub invariant-loop-place : goal.invariant-loop-place
invariant-loop-place g l =
    let view = g.L.Peer.view in
    record {
      rest : SameFrom l.place l.fn.slots l.slots;
      live : All (LiveSlot view) l.slots;
      stage : Stage (in_turn_from 0 (take l.place (keeping_of (shapes (instances view l.fn.slots))))) nothing (instances view l.fn.slots) (instances view l.slots) (Ok tt);
      kept : KeptSoFar l.place (instances view l.fn.slots) l.fn.keeping.bytes.items l.keeping.bytes.items;
      none : l.keeping.state.items ≡ [];
      state : vec_capacity l.fn.keeping.state ≤ vec_capacity l.keeping.state;
      room : vec_capacity l.fn.keeping.bytes ≤ vec_capacity l.keeping.bytes;
    }
