use Rattle.std.proofs.Common.{◌≤◌, ◌^◌, arith}
use Rattle.std.proofs.Math.Nat.{pow-le-pow_right}
use Rattle.clock_fraction.proofs.shortest.power_of_ten.Goals as goal

pub returns-clause-small : goal.returns-clause-small
returns-clause-small c =
    let below : 10 ^ c.args.exponent ≤ 10 ^ 18 = pow-le-pow_right {n = 10} (omega arith) {i = c.args.exponent} {j = 18} c.requires in
    omega (arith, c.pow.ensures)
