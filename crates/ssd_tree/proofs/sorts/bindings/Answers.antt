use Rattle.std.proofs.Common.{◌≡◌, ◌+◌, List, [], ◌∷◌, ◌++◌, ℕ, codes, sym, subst, arith}
use Rattle.std.proofs.lemmas.Bool.{iff_false}
use Rattle.ssd_tree.specs.Elements.{IsBinding}
use Rattle.ssd_tree.specs.Listings.{IsListingBelow}
use Rattle.ssd_tree.proofs.ElementLemmas.{of_part_within}
use Rattle.ssd_tree.proofs.ListingLemmas.{listing_yes, listing_no, listing_whole}
use Rattle.ssd_tree.proofs.sorts.bindings.Goals as goal
use Rattle.ssd_tree.proofs.sorts.bindings.Goals.{then-is_binding+in_ok-push, else-is_binding}

pub loop-node-preserved : goal.loop-node-preserved
loop-node-preserved c =
    let t = c.args.tree.now in
    let node = c.loop-node.node in
    let old = c.loop-node.bindings.items in
    elim c.if-is_binding.branch [
      | then-is_binding+in_ok-push w ↦
          let pushed : c.if-is_binding.bindings.items ≡ old ++ node ∷ [] = rw w.bindings-is w.in_ok-push.ensures.items in
          subst (λ (xs : List ℕ). IsListingBelow (IsBinding t) (node + 1) xs) (sym pushed)
          (listing_yes (IsBinding t) node old c.loop-node.invariant (c.is_binding.ensures.0 w.if-is_binding.true))
      | else-is_binding w ↦
          let same : c.if-is_binding.bindings.items ≡ old = rw w.bindings-is in
          subst (λ (xs : List ℕ). IsListingBelow (IsBinding t) (node + 1) xs) (sym same)
          (listing_no (IsBinding t) node old c.loop-node.invariant (iff_false c.is_binding.ensures w.if-is_binding.false))
    ]

pub returns : goal.returns
returns c =
    let t = c.args.tree.now in
    listing_whole (IsBinding t) c.loop-node.node c.loop-node.bindings.items (λ k is. omega (arith, of_part_within t k (codes "ParameterBindings") is.1)) c.loop-node.invariant
