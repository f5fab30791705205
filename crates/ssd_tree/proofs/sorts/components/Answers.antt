use Rattle.std.proofs.Common.{◌≡◌, ◌+◌, List, [], ◌∷◌, ◌++◌, ℕ, sym, subst, arith}
use Rattle.std.proofs.lemmas.Bool.{iff_false}
use Rattle.ssd_tree.specs.Elements.{IsComponent}
use Rattle.ssd_tree.specs.Listings.{IsListingBelow}
use Rattle.ssd_tree.proofs.ElementLemmas.{component_within}
use Rattle.ssd_tree.proofs.ListingLemmas.{listing_yes, listing_no, listing_whole}
use Rattle.ssd_tree.proofs.sorts.components.Goals as goal
use Rattle.ssd_tree.proofs.sorts.components.Goals.{then-is_component+in_ok-push, else-is_component}

pub loop-node-preserved : goal.loop-node-preserved
loop-node-preserved c =
    let t = c.args.tree.now in
    let node = c.loop-node.node in
    let old = c.loop-node.components.items in
    elim c.if-is_component.branch [
      | then-is_component+in_ok-push w ↦
          let pushed : c.if-is_component.components.items ≡ old ++ node ∷ [] = rw w.components-is w.in_ok-push.ensures.items in
          subst (λ (xs : List ℕ). IsListingBelow (IsComponent t) (node + 1) xs) (sym pushed)
          (listing_yes (IsComponent t) node old c.loop-node.invariant (c.is_component.ensures.0 w.if-is_component.true))
      | else-is_component w ↦
          let same : c.if-is_component.components.items ≡ old = rw w.components-is in
          subst (λ (xs : List ℕ). IsListingBelow (IsComponent t) (node + 1) xs) (sym same)
          (listing_no (IsComponent t) node old c.loop-node.invariant (iff_false c.is_component.ensures w.if-is_component.false))
    ]

pub returns : goal.returns
returns c =
    let t = c.args.tree.now in
    listing_whole (IsComponent t) c.loop-node.node c.loop-node.components.items (λ k is. omega (arith, component_within t k is)) c.loop-node.invariant
