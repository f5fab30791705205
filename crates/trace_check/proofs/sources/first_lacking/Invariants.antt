use Rattle.std.proofs.Common.{take}
use Rattle.trace_check.proofs.InputLemmas.{NoneLack}
use Rattle.trace_check.proofs.sources.first_lacking.Given as goal

abbrev pub invariant-loop-p : goal.invariant-loop-p
invariant-loop-p l = NoneLack l.system l.values (take l.p-index l.ports)
