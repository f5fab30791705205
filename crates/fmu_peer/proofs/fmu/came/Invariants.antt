use Rattle.std.proofs.Common.{◌≡◌, ◌+◌, drop}
use Rattle.fmu_peer.specs.Many.{count_came}
use Rattle.fmu_peer.proofs.fmu.came.Given as goal

abbrev pub invariant-loop-i : goal.invariant-loop-i
invariant-loop-i l = count_came l.replies ≡ l.i + count_came (drop l.i l.replies)
