use Rattle.std.proofs.Common.{◌≡◌, List, None, length}
use Rattle.std.proofs.Math.ListN.{replicate}
use Rattle.system_model.specs.Text.{Instant}
use Rattle.trace_check.specs.Instants.{AreInstantsOf}
use Rattle.trace_check.proofs.TraceLemmas.{Along}
use Rattle.trace_check.proofs.checking.check_instants.Given as goal

abbrev pub invariant-loop-t : goal.invariant-loop-t
invariant-loop-t l = record {
  along : (instants : List Instant) → AreInstantsOf l.trace instants → Along l.system l.trace instants l.rest l.last l.is_reached;
  none : l.values.items ≡ replicate (length l.trace.ports) None;
}

abbrev pub decreases-loop-t : goal.decreases-loop-t
decreases-loop-t l = length l.rest
