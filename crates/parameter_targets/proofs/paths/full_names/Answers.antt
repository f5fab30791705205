use Rattle.std.proofs.Common.{length, ap, arith}
use Rattle.parameter_targets.proofs.RowLemmas.{names_all, names_more}
use Rattle.parameter_targets.proofs.paths.full_names.Goals as goal

pub loop-part-preserved : goal.loop-part-preserved
loop-part-preserved c =
    names_more c.args.tree.now.components c.as_slice-part-items.result.now c.loop-part.part-index c.part-item.result c.loop-part.names.items c.push.new.self.items c.in_ok-text.field-0
    c.as_slice-part-items.ensures c.loop-part-test.true c.part-item.is c.in_ok-text.ensures c.loop-part.invariant c.in_ok-push.ensures.items

pub returns : goal.returns
returns c =
    names_all c.args.tree.now.components c.loop-part.part-index c.loop-part.names.items (omega (arith, c.loop-part-test.false, ap length c.as_slice-part-items.ensures)) c.loop-part.invariant
