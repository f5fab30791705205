use Rattle.std.proofs.Common.{rules, arith}
use Rattle.trace_reading.proofs.LineLemmas.{lacks_decimal}
use Rattle.trace_reading.proofs.lines.number_before.Goals as goal

pub returns-in_err-word-clause-exact : goal.returns-in_err-word-clause-exact
returns-in_err-word-clause-exact c = λ n rest bound e. let found = c.split_once.ensures.exact _ rest (lacks_decimal 32 n (omega arith) bound) e in search rules

pub returns-in_err-number-clause-exact : goal.returns-in_err-number-clause-exact
returns-in_err-number-clause-exact c = λ n rest bound e. let found = c.split_once.ensures.exact _ rest (lacks_decimal 32 n (omega arith) bound) e in search rules

pub returns-clause-exact : goal.returns-clause-exact
returns-clause-exact c = λ n rest bound e. let found = c.split_once.ensures.exact _ rest (lacks_decimal 32 n (omega arith) bound) e in search rules
