use Rattle.std.proofs.Common.{ℕ, subst, sym}
use Rattle.ssd_tree.specs.Lists.{AreBetween, places_of}
use Rattle.ssd_tree.proofs.indexed.IndexedTree.document.Goals as goal

pub invariant_of-result : goal.invariant_of-result
invariant_of-result c = record {
  placed = subst (λ (n : ℕ). AreBetween 0 n (places_of c.in_ok-nested.nested.items)) (sym c.in_ok-parts.ensures.components) c.in_ok-nested.ensures.placed;
}
