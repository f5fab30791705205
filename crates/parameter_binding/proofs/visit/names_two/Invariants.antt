use Rattle.std.proofs.Common.{take}
use Rattle.parameter_binding.proofs.VisitLemmas.{AreFirst}
use Rattle.parameter_binding.proofs.visit.names_two.Given as goal

abbrev pub invariant-loop-target : goal.invariant-loop-target
invariant-loop-target l = AreFirst l.targets (take l.target-index l.targets)
