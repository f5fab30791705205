use Rattle.std.proofs.Common.{◌∙◌, [], arith}
use Rattle.step_master.proofs.Resuming.{blanks}
use Rattle.step_master.proofs.taking.no_bound.Goals as goal

pub returns : goal.returns
returns c =
    c.from_vec-2.ensures
    ∙ blanks [] c.args.components.now c.loop-alloc.lists.items (let most = c.loop-alloc.invariant.0 in let least = c.loop-alloc-test.false in let len = c.len.ensures in omega (arith, most, least, len)) c.loop-alloc.invariant.1
