use Rattle.std.proofs.Common.{◌≡◌, ◌<◌, ℕ, Some, false, length, get_or}
use Rattle.std.specs.Prelude.{slice_get}
use Rattle.system_model.specs.declared.system.Port.{Port}
use Rattle.event_iteration.specs.Participants.{is_changed_input}
use Rattle.event_iteration.proofs.participants.mark_changed_inputs.Given as goal

abbrev pub invariant-loop-p : goal.invariant-loop-p
invariant-loop-p l = record {
  size : length l.keeps ≡ length l.fn.keeps;
  marks : (q : ℕ) (port : Port) → q < l.p → slice_get l.ports q ≡ Some port → get_or l.keeps q false ≡ is_changed_input port.role;
}
