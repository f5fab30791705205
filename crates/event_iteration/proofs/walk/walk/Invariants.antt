use Rattle.std.specs.Prelude.{All}
use Rattle.system_model.specs.Ports.{port_numbers}
use Rattle.slot_calls.specs.Slots.{LiveSlot, instances}
use Rattle.event_iteration.specs.Waits.{Gathers}
use Rattle.event_iteration.proofs.walk.walk.Given as goal

abbrev pub invariant-loop-k : goal.invariant-loop-k
invariant-loop-k g l =
    let view = g.L.Peer.view in
    record {
      live : All (LiveSlot view) l.slots;
      gathers : Gathers l.system (g.T.Turns.rules l.turns l.system) l.fn.values (port_numbers l.order) (instances view l.fn.slots) l.k l.waiting l.values (instances view l.slots);
    }
