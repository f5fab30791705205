use Rattle.std.proofs.Common.{Ok, take}
use Rattle.std.specs.Prelude.{All}
use Rattle.slot_calls.specs.Slots.{LiveSlot, Stands, instances}
use Rattle.slot_calls.specs.Stage.{Stage, nothing}
use Rattle.calling_sequence.specs.Calls.{binding_from}
use Rattle.calling_sequence.specs.Place.{IsMade}
use Rattle.calling_sequence.proofs.parameters.set_parameters.Given as goal

abbrev pub invariant-loop-place : goal.invariant-loop-place
invariant-loop-place g l =
    let view = g.L.Peer.view in
    record {
      live : All (LiveSlot view) l.slots;
      made : All (Stands IsMade view) l.slots;
      sets : Stage (binding_from 0 (take l.place l.bound.components)) nothing (instances view l.fn.slots) (instances view l.slots) (Ok tt);
    }
