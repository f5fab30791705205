use Rattle.doc_tree.proofs.BuildLemmas.{popped_below}
use Rattle.doc_tree.proofs.builder.Builder.close.Goals as goal

pub invariant_of-result : goal.invariant_of-result
invariant_of-result c = popped_below _ _ _ _ c.self.invariant c.pop.ensures.items
