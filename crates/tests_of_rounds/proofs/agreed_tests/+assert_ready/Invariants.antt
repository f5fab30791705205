use Rattle.std.proofs.Common.{length}
use Rattle.tests_of_rounds.proofs.agreed_tests.+assert_ready.Given as goal

abbrev pub decreases-assert_ready : goal.decreases-assert_ready
decreases-assert_ready g l = length l.slots.now
