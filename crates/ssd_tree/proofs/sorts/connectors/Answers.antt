use Rattle.std.proofs.Common.{◌≡◌, ◌+◌, List, [], ◌∷◌, ◌++◌, ℕ, codes, sym, subst, arith}
use Rattle.std.proofs.lemmas.Bool.{iff_false}
use Rattle.ssd_tree.specs.Elements.{IsConnector}
use Rattle.ssd_tree.specs.Listings.{IsListingBelow}
use Rattle.ssd_tree.proofs.ElementLemmas.{of_part_within}
use Rattle.ssd_tree.proofs.ListingLemmas.{listing_yes, listing_no, listing_whole}
use Rattle.ssd_tree.proofs.sorts.connectors.Goals as goal
use Rattle.ssd_tree.proofs.sorts.connectors.Goals.{then-is_connector+in_ok-push, else-is_connector}

pub loop-node-preserved : goal.loop-node-preserved
loop-node-preserved c =
    let t = c.args.tree.now in
    let node = c.loop-node.node in
    let old = c.loop-node.connectors.items in
    elim c.if-is_connector.branch [
      | then-is_connector+in_ok-push w ↦
          let pushed : c.if-is_connector.connectors.items ≡ old ++ node ∷ [] = rw w.connectors-is w.in_ok-push.ensures.items in
          subst (λ (xs : List ℕ). IsListingBelow (IsConnector t) (node + 1) xs) (sym pushed)
          (listing_yes (IsConnector t) node old c.loop-node.invariant (c.is_connector.ensures.0 w.if-is_connector.true))
      | else-is_connector w ↦
          let same : c.if-is_connector.connectors.items ≡ old = rw w.connectors-is in
          subst (λ (xs : List ℕ). IsListingBelow (IsConnector t) (node + 1) xs) (sym same)
          (listing_no (IsConnector t) node old c.loop-node.invariant (iff_false c.is_connector.ensures w.if-is_connector.false))
    ]

pub returns : goal.returns
returns c =
    let t = c.args.tree.now in
    listing_whole (IsConnector t) c.loop-node.node c.loop-node.connectors.items (λ k is. omega (arith, of_part_within t k (codes "Connectors") is.1)) c.loop-node.invariant
