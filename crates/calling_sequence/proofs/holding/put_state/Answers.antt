use Rattle.std.proofs.Common.{arith}
use Rattle.exact_parts.proofs.CallerLemmas.{are_bytes}
use Rattle.calling_sequence.proofs.holding.put_state.Goals as goal

pub returns-clause-are_bytes : goal.returns-clause-are_bytes
returns-clause-are_bytes c = are_bytes c.args.state.now (λ i. omega (arith, c.type_inv.state i))
