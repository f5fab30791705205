use Rattle.std.proofs.lemmas.Str.{IsUtf8-from_ascii}
use Rattle.trace_reading.proofs.numbers.as_text.Goals as goal

pub returns-in-Err-clause-none : goal.returns-in-Err-clause-none
returns-in-Err-clause-none c = λ ascii. c.in-Err.ensures.cases.0 (IsUtf8-from_ascii c.args.bytes.now ascii)
