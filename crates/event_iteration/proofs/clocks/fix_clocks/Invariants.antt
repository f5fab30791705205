use Rattle.std.specs.Prelude.{All}
use Rattle.slot_calls.specs.Slots.{LiveSlot, instances}
use Rattle.event_iteration.proofs.Fixing.{Fixing}
use Rattle.event_iteration.proofs.clocks.fix_clocks.Given as goal

abbrev pub invariant-loop-p : goal.invariant-loop-p
invariant-loop-p g l =
    let view = g.L.Peer.view in
    record {
      live : All (LiveSlot view) l.slots;
      fixing : Fixing l.system l.per_second l.p l.fn.schedule l.schedule (instances view l.fn.slots) (instances view l.slots);
    }
