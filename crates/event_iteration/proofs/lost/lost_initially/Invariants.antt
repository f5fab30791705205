use Rattle.std.proofs.Common.{◌≤◌, length}
use Rattle.run_model.specs.Initial.{is_bad_initially}
use Rattle.event_iteration.proofs.Losing.{NoneBefore}
use Rattle.event_iteration.proofs.lost.lost_initially.Given as goal

abbrev pub invariant-loop-p : goal.invariant-loop-p
invariant-loop-p l = record {
  up_to : l.p ≤ length l.system.ports;
  none : NoneBefore (is_bad_initially l.system l.values) l.system.ports l.p;
}
