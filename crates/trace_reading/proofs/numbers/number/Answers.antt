use Rattle.std.proofs.Common.{rules}
use Rattle.std.proofs.lemmas.Fmt.{IsAscii-decimal}
use Rattle.std.specs.Str.{IsAscii}
use Rattle.trace_reading.proofs.numbers.number.Goals as goal

pub returns-in_err-as_text-clause-exact : goal.returns-in_err-as_text-clause-exact
returns-in_err-as_text-clause-exact c = λ n bound e. let ascii : IsAscii c.args.bytes.now = rw e (IsAscii-decimal n bound) in search rules
