use Rattle.std.proofs.Common.{◌<◌, ◌%◌, arith}
use Rattle.std.proofs.Math.Nat.{mod-lt}
use Rattle.parallel_step.proofs.Sharing.{back_share}
use Rattle.parallel_step.proofs.rounds.front_share.Goals as goal

pub returns-clause-back : goal.returns-clause-back
returns-clause-back c =
    let left : c.args.slots % c.args.groups < c.args.groups = mod-lt c.args.slots (omega arith) in
    back_share c.args.slots c.args.groups c.args.front c.min.result c.requires (omega (arith, c.min.ensures)) (omega (arith, c.min.ensures, left))
