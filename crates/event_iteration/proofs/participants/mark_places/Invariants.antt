use Rattle.std.proofs.Common.{◌≡◌, ◌<◌, ℕ, Some, false, length, get_or}
use Rattle.std.specs.Prelude.{slice_get}
use Rattle.system_model.specs.declared.system.Port.{Port}
use Rattle.system_model.specs.Ports.{port_numbers}
use Rattle.event_iteration.specs.Participants.{is_steady}
use Rattle.event_iteration.proofs.participants.mark_places.Given as goal

abbrev pub invariant-loop-k : goal.invariant-loop-k
invariant-loop-k l = record {
  size : length l.keeps ≡ length l.fn.keeps;
  marks : (j p : ℕ) (port : Port) → j < l.k → slice_get (port_numbers l.system.instant_order) j ≡ Some p → slice_get l.system.ports p ≡ Some port → get_or l.keeps j false ≡ is_steady port;
}
