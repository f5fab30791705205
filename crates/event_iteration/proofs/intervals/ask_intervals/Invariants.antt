use Rattle.std.proofs.Common.{◌-◌, length}
use Rattle.std.specs.Prelude.{All}
use Rattle.slot_calls.specs.Slots.{LiveSlot, instances}
use Rattle.event_iteration.proofs.Rearming.{Rearming}
use Rattle.event_iteration.proofs.intervals.ask_intervals.Given as goal

abbrev pub invariant-loop-p : goal.invariant-loop-p
invariant-loop-p g l =
    let view = g.L.Peer.view in
    record {
      live : All (LiveSlot view) l.slots;
      rearming : Rearming l.system l.per_second l.t l.p l.values l.fn.schedule l.schedule l.is_armed (instances view l.fn.slots) (instances view l.slots);
    }

abbrev pub decreases-loop-p : goal.decreases-loop-p
decreases-loop-p g l = length l.values - l.p
