use Rattle.std.proofs.Common.{◌∙◌, ◌+◌, ◌<◌, ap, sym, length, arith}
use Rattle.doc_tree.proofs.PathLemmas.{counts_yes, counts_no}
use Rattle.doc_tree.proofs.tree.Tree.place_at.Goals as goal
use Rattle.doc_tree.proofs.tree.Tree.place_at.Goals.{then-is_same, else-is_same, then-node-count, else-node-count}

pub loop-beside-preserved : goal.loop-beside-preserved
loop-beside-preserved c =
    let within : c.loop-beside.beside < length c.args.self.now = elim c.if-node-count.branch [ then-node-count w ↦ omega arith | else-node-count w ↦ omega arith ] in
    elim c.if-is_same.branch [
      | then-is_same w ↦ record {
        counted = w.place-is ∙ ap (λ n. n + 1) c.loop-beside.invariant.counted
            ∙ sym (counts_yes c.args.self.now c.loop-beside.beside c.parent.result c.parent_at-parent.result within c.parent.ensures.parent (sym c.is_same.ensures ∙ w.if-is_same.true));
        small = omega arith;
      }
      | else-is_same w ↦ record {
        counted = w.place-is ∙ c.loop-beside.invariant.counted
            ∙ sym (counts_no c.args.self.now c.loop-beside.beside c.parent.result c.parent_at-parent.result within c.parent.ensures.parent (sym c.is_same.ensures ∙ w.if-is_same.false));
        small = omega arith;
      }
    ]
