use Rattle.std.proofs.Common.{◌≡◌, ◌+◌, List, [], ◌∷◌, ◌++◌, ℕ, codes, sym, subst, arith}
use Rattle.std.proofs.lemmas.Bool.{iff_false}
use Rattle.ssd_tree.specs.Elements.{IsConnection}
use Rattle.ssd_tree.specs.Listings.{IsListingBelow}
use Rattle.ssd_tree.proofs.ElementLemmas.{of_system_within}
use Rattle.ssd_tree.proofs.ListingLemmas.{listing_yes, listing_no, listing_whole}
use Rattle.ssd_tree.proofs.sorts.connections.Goals as goal
use Rattle.ssd_tree.proofs.sorts.connections.Goals.{then-is_connection+in_ok-push, else-is_connection}

pub loop-node-preserved : goal.loop-node-preserved
loop-node-preserved c =
    let t = c.args.tree.now in
    let node = c.loop-node.node in
    let old = c.loop-node.connections.items in
    elim c.if-is_connection.branch [
      | then-is_connection+in_ok-push w ↦
          let pushed : c.if-is_connection.connections.items ≡ old ++ node ∷ [] = rw w.connections-is w.in_ok-push.ensures.items in
          subst (λ (xs : List ℕ). IsListingBelow (IsConnection t) (node + 1) xs) (sym pushed)
          (listing_yes (IsConnection t) node old c.loop-node.invariant (c.is_connection.ensures.0 w.if-is_connection.true))
      | else-is_connection w ↦
          let same : c.if-is_connection.connections.items ≡ old = rw w.connections-is in
          subst (λ (xs : List ℕ). IsListingBelow (IsConnection t) (node + 1) xs) (sym same)
          (listing_no (IsConnection t) node old c.loop-node.invariant (iff_false c.is_connection.ensures w.if-is_connection.false))
    ]

pub returns : goal.returns
returns c =
    let t = c.args.tree.now in
    listing_whole (IsConnection t) c.loop-node.node c.loop-node.connections.items (λ k is. omega (arith, of_system_within t k (codes "Connections") is.1)) c.loop-node.invariant
