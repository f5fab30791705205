use Rattle.std.proofs.Common.{◌≡◌, ◌≤◌, ◌-◌, ℕ, true, false, Contains, length, get_or, take}
use Rattle.std.specs.Prelude.{All}
use Rattle.system_model.specs.Ports.{port_numbers}
use Rattle.system_model.specs.Values.{value}
use Rattle.slot_calls.specs.Slots.{LiveSlot, instances}
use Rattle.event_iteration.specs.Clocks.{is_due_at}
use Rattle.event_iteration.specs.Instants.{in_instant}
use Rattle.event_iteration.specs.Waits.{Gathers}
use Rattle.event_iteration.proofs.LeftOut.{AwaitsTicks}
use Rattle.event_iteration.proofs.instants.walk_participants.Given as goal

-- the places before k were taken or left out; of the others those that wait for a Clock which was taken and is active are to be taken, and those that were at the start
abbrev pub invariant-loop-k : goal.invariant-loop-k
invariant-loop-k g l =
    let view = g.L.Peer.view in
    record {
      live : All (LiveSlot view) l.slots;
      gathers : Gathers l.system (in_instant (is_due_at l.turns.schedule.now l.turns.t) l.turns.is_first) l.fn.values (port_numbers l.system.instant_order) (instances view l.fn.slots) l.k l.waiting l.values (instances view l.slots);
      room : length l.pending ≡ length l.fn.pending;
      ahead : (j : ℕ) → get_or l.pending j false ≡ true → l.k ≤ j;
      awaits : AwaitsTicks l.system l.k l.values l.pending;
      left : (j : ℕ) → l.k ≤ j → get_or l.fn.pending j false ≡ true → get_or l.pending j false ≡ true;
      untaken : (q : ℕ) → (Contains (take l.k (port_numbers l.system.instant_order)) q → ⊥) → value l.values q ≡ value l.fn.values q;
    }

abbrev pub decreases-loop-k : goal.decreases-loop-k
decreases-loop-k g l = length l.system.instant_order - l.k
