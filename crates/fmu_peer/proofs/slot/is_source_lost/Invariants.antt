use Rattle.std.proofs.Common.{◌≡◌, ◌==◌, false, take}
use Rattle.std.specs.Prelude.{◌&&◌, All}
use Rattle.fmu_peer.proofs.slot.is_source_lost.Given as goal

abbrev pub invariant-loop-slot : goal.invariant-loop-slot
invariant-loop-slot g l = All (λ s. (s.is_fatal && s.source.0 == l.source.0) ≡ false) (take l.slot-index l.slots)
