use Rattle.trace_check.proofs.SourceLemmas.{AllAgree}
use Rattle.trace_check.proofs.sources.first_other_value.Given as goal

abbrev pub invariant-loop-k : goal.invariant-loop-k
invariant-loop-k l = AllAgree l.system l.values l.told l.k
