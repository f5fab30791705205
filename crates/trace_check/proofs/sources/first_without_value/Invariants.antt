use Rattle.trace_check.proofs.InputLemmas.{NoneLackAt}
use Rattle.trace_check.proofs.sources.first_without_value.Given as goal

abbrev pub invariant-loop-line : goal.invariant-loop-line
invariant-loop-line l = NoneLackAt l.system l.values l.told l.inputs.at_ticks l.line-index
