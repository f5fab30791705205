use Rattle.fmi_calls.specs.Next.{HasMarks}
use Rattle.tests_of_fmus.proofs.paths.follow.Given as goal

abbrev pub invariant-loop-call : goal.invariant-loop-call
invariant-loop-call l = HasMarks l.shape l.phase
