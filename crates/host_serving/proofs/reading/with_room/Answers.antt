use Rattle.std.proofs.Common.{arith, rules, ◌≡◌, length}
use Rattle.host_serving.proofs.FrameLemmas.{resized}
use Rattle.host_serving.proofs.reading.with_room.Goals as goal

pub returns-clause-prefix : goal.returns-clause-prefix
returns-clause-prefix c =
    let long : length c.args.head.now ≡ 24 = search rules in
    resized _ _ c.args.head.now _ c.saturating_add.result c.in_ok-frame.ensures.items c.in_ok-resize.ensures.items long (omega (arith, c.saturating_add.ensures))
