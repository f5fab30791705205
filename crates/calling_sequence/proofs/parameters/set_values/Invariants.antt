use Rattle.std.proofs.Common.{List, take}
use Rattle.std.specs.Prelude.{All}
use Rattle.slot_calls.specs.Log.{Sent, Told}
use Rattle.slot_calls.specs.Slots.{LiveSlot, Stands, instances}
use Rattle.slot_calls.specs.Stage.{IsAnswered, shapes}
use Rattle.calling_sequence.specs.Calls.{sets_of}
use Rattle.calling_sequence.specs.Place.{IsMade}
use Rattle.calling_sequence.proofs.parameters.set_values.Given as goal

abbrev pub invariant-loop-value : goal.invariant-loop-value
invariant-loop-value g l =
    let view = g.L.Peer.view in
    record {
      live : All (LiveSlot view) l.slots;
      made : All (Stands IsMade view) l.slots;
      log : List Sent;
      told : Told log (instances view l.fn.slots) (instances view l.slots);
      answered : IsAnswered (shapes (instances view l.fn.slots)) (sets_of l.place (take l.value-index l.values)) log;
    }
