use Rattle.std.proofs.Common.{◌≡◌, List, take}
use Rattle.std.specs.Prelude.{All}
use Rattle.slot_calls.specs.Log.{Sent, Told}
use Rattle.slot_calls.specs.Slots.{LiveSlot, instances}
use Rattle.slot_calls.specs.Stage.{IsAnswered, shapes}
use Rattle.slot_calls.proofs.CallerLemmas.{SameFrom}
use Rattle.event_iteration.specs.Updates.{updated_by, updating}
use Rattle.event_iteration.proofs.EventTimes.{TellsUpTo}
use Rattle.event_iteration.proofs.updates.update.Given as goal

abbrev pub invariant-loop-place : goal.invariant-loop-place
invariant-loop-place g l =
    let view = g.L.Peer.view in
    let olds = instances view l.fn.slots in
    record {
      rest : SameFrom l.place l.fn.slots l.slots;
      live : All (LiveSlot view) l.slots;
      log : List Sent;
      told : Told log olds (instances view l.slots);
      answered : IsAnswered (shapes olds) (updating (take l.place (shapes olds))) log;
      updated : l.updated ≡ updated_by log;
      events : TellsUpTo l.t l.place (shapes olds) l.fn.schedule l.schedule log;
    }
