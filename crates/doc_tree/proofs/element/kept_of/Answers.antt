use Rattle.std.proofs.Common.{◌∙◌}
use Rattle.doc_tree.proofs.KeptLemmas.{kept_more}
use Rattle.doc_tree.proofs.element.kept_of.Goals as goal

pub loop-attr-preserved : goal.loop-attr-preserved
loop-attr-preserved c = c.in_ok-add.ensures ∙ kept_more c.args.all.now c.loop-attr.attr-index c.attr-item.result _ c.loop-attr-test.true c.attr-item.is c.loop-attr.invariant
