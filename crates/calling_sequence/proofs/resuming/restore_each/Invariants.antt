use Rattle.std.proofs.Common.{ℕ, ◌<◌, [], Ok, length, map, take, get_or}
use Rattle.std.specs.Prelude.{All}
use Rattle.fmu_peer.specs.CloseAll.{Instance, instance_in}
use Rattle.slot_calls.specs.Keeping.{WasRestored, without_machine_in}
use Rattle.slot_calls.specs.Slots.{LiveSlot, instances}
use Rattle.slot_calls.specs.Stage.{Stage, nothing}
use Rattle.slot_calls.proofs.CallerLemmas.{SameFrom}
use Rattle.calling_sequence.proofs.InTurn.{in_turn_from, restoring_of}
use Rattle.calling_sequence.proofs.resuming.restore_each.Given as goal

abbrev pub invariant-loop-place : goal.invariant-loop-place
invariant-loop-place g l =
    let view = g.L.Peer.view in
    let stop = l.experiment.plan.stop in
    record {
      rest : SameFrom l.place l.fn.slots l.slots;
      live : All (LiveSlot view) l.slots;
      stage : Stage (in_turn_from 0 (take l.place (restoring_of l.point stop (map length l.states)))) nothing (map (λ s. without_machine_in (instance_in view s)) l.fn.slots) (map (λ s. without_machine_in (instance_in view s)) l.slots) (Ok tt);
      prefix : (i : ℕ) (d : Instance) → i < l.place → WasRestored l.point stop (get_or l.states i []) (get_or (instances view l.fn.slots) i d).view (get_or (instances view l.slots) i d).view;
    }
