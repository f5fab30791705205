use Rattle.std.proofs.Common.{refl}
use Rattle.trace_judging.specs.Steps.{AfterSystem}
use Rattle.trace_judging.proofs.JudgeLemmas.{is_verdict}
use Rattle.trace_judging.proofs.judging.judge_trace.Goals as goal

pub returns-in-Ok-check-clause-ok : goal.returns-in-Ok-check-clause-ok
returns-in-Ok-check-clause-ok g c = record {
  loaded = c.in-Ok.loaded;
  loads = c.in-Ok.ensures.ok;
  verdict_is = is_verdict c.in-Ok.loaded.system c.args.trace.now c.check.result c.in-Ok-check.verdict c.in-Ok-check.is c.check.ensures.yes c.check.ensures.no;
}

pub returns-in-Ok-clause-err : goal.returns-in-Ok-clause-err
returns-in-Ok-clause-err g c = AfterSystem c.in-Ok.loaded refl c.in-Ok.ensures.ok
