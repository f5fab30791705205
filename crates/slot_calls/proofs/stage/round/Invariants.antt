use Rattle.std.proofs.Common.{List, take}
use Rattle.std.specs.Prelude.{All, OnOk}
use Rattle.slot_calls.specs.Carried.{any_asks_to_end}
use Rattle.slot_calls.specs.Log.{Sent, Told}
use Rattle.slot_calls.specs.Slots.{LiveSlot, call_of, instances, is_asked}
use Rattle.slot_calls.specs.Stage.{RoundSays, shapes, to_those}
use Rattle.slot_calls.proofs.Turns.{SameFrom}
use Rattle.slot_calls.proofs.stage.round.Given as goal

abbrev pub invariant-loop-place : goal.invariant-loop-place
invariant-loop-place g l =
    let view = g.L.Peer.view in
    record {
      rest : SameFrom l.place l.fn.slots l.slots;
      live : OnOk l.so_far (All (LiveSlot view) l.slots);
      log : List Sent;
      told : Told log (instances view l.fn.slots) (instances view l.slots);
      says : RoundSays (shapes (instances view l.fn.slots)) (to_those (is_asked l.ask) (call_of l.ask) (take l.place (shapes (instances view l.fn.slots)))) any_asks_to_end log l.so_far;
    }
