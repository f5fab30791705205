use Rattle.std.proofs.Common.{length}
use Rattle.tests_of_rounds.proofs.agreed_tests.+assert_savable.Given as goal

abbrev pub decreases-assert_savable : goal.decreases-assert_savable
decreases-assert_savable g l = length l.slots.now
