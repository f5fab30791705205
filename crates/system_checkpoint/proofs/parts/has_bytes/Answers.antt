use Rattle.std.proofs.Common.{arith}
use Rattle.exact_parts.proofs.CallerLemmas.{are_bytes}
use Rattle.system_checkpoint.proofs.parts.has_bytes.Goals as goal

pub returns-clause-are_bytes : goal.returns-clause-are_bytes
returns-clause-are_bytes c = are_bytes c.args.bytes.now (λ i. omega (arith, c.type_inv.bytes i))
