use Rattle.std.proofs.Common.{◌≡◌, drop}
use Rattle.parallel_step.specs.Lifted.{bad_from}
use Rattle.parallel_step.proofs.answers.first_bad.Given as goal

abbrev pub invariant-loop-place : goal.invariant-loop-place
invariant-loop-place g l = bad_from 0 l.slots ≡ bad_from l.place (drop l.place l.slots)
