use Rattle.std.proofs.Common.{◌-◌, List, length, take}
use Rattle.std.specs.Prelude.{All}
use Rattle.slot_calls.specs.Log.{Sent, Told}
use Rattle.slot_calls.specs.Slots.{LiveSlot, instances}
use Rattle.event_iteration.specs.Settings.{before_step, port_order}
use Rattle.event_iteration.specs.Turns.{Walked}
use Rattle.event_iteration.proofs.inputs.set_inputs.Given as goal

abbrev pub invariant-loop-p : goal.invariant-loop-p
invariant-loop-p g l =
    let view = g.L.Peer.view in
    record {
      live : All (LiveSlot view) l.slots;
      log : List Sent;
      told : Told log (instances view l.fn.slots) (instances view l.slots);
      walked : Walked l.system (before_step l.values) l.values (take l.p (port_order l.system)) l.values log;
    }

abbrev pub decreases-loop-p : goal.decreases-loop-p
decreases-loop-p g l = length l.values - l.p
