use Rattle.std.proofs.Common.{length}
use Rattle.tests_of_rounds.proofs.slots.+assert_can_work.Given as goal

abbrev pub decreases-assert_can_work : goal.decreases-assert_can_work
decreases-assert_can_work g l = length l.slots.now
