use Rattle.std.proofs.Common.{rules}
use Rattle.std.proofs.lemmas.Fmt.{parse-decimal}
use Rattle.trace_reading.proofs.numbers.parse_number.Goals as goal

pub returns : goal.returns
returns c = record { exact = λ n bound e. let found = parse-decimal 64 n c.args.text.now c.parse.result bound bound e c.parse.ensures.value.0 in search rules }
