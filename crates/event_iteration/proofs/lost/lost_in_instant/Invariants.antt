use Rattle.std.proofs.Common.{◌-◌, length}
use Rattle.run_model.specs.Equations.{is_bad}
use Rattle.event_iteration.proofs.Losing.{NoneBefore}
use Rattle.event_iteration.proofs.lost.lost_in_instant.Given as goal

abbrev pub invariant-loop-p : goal.invariant-loop-p
invariant-loop-p l = record { none : NoneBefore (is_bad l.values) l.system.ports l.p }

abbrev pub decreases-loop-p : goal.decreases-loop-p
decreases-loop-p l = length l.system.ports - l.p
