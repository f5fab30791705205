use Rattle.std.proofs.Common.{arith}
use Rattle.std.proofs.lemmas.Bool.Decides.{nat_tests}
use Rattle.clock_fraction.proofs.TickLemmas.{IsMultiple-from_rest, rest-from_IsMultiple}
use Rattle.clock_fraction.proofs.ticks.is_multiple.Goals as goal

pub returns : goal.returns
returns c =
    (λ yes. IsMultiple-from_rest c.args.value c.args.unit (grind (arith, nat_tests)), λ multiple. let rest = rest-from_IsMultiple c.args.value c.args.unit multiple in grind (arith, nat_tests))
