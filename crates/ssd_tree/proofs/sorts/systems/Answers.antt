use Rattle.std.proofs.Common.{◌≡◌, ◌+◌, List, [], ◌∷◌, ◌++◌, ℕ, sym, subst, arith}
use Rattle.std.proofs.lemmas.Bool.{iff_false}
use Rattle.ssd_tree.specs.Elements.{IsSystem}
use Rattle.ssd_tree.specs.Listings.{IsListingBelow}
use Rattle.ssd_tree.proofs.ElementLemmas.{system_within}
use Rattle.ssd_tree.proofs.ListingLemmas.{listing_yes, listing_no, listing_whole}
use Rattle.ssd_tree.proofs.sorts.systems.Goals as goal
use Rattle.ssd_tree.proofs.sorts.systems.Goals.{then-is_system+in_ok-push, else-is_system}

pub loop-node-preserved : goal.loop-node-preserved
loop-node-preserved c =
    let t = c.args.tree.now in
    let node = c.loop-node.node in
    let old = c.loop-node.systems.items in
    elim c.if-is_system.branch [
      | then-is_system+in_ok-push w ↦
          let pushed : c.if-is_system.systems.items ≡ old ++ node ∷ [] = rw w.systems-is w.in_ok-push.ensures.items in
          subst (λ (xs : List ℕ). IsListingBelow (IsSystem t) (node + 1) xs) (sym pushed)
          (listing_yes (IsSystem t) node old c.loop-node.invariant (c.is_system.ensures.0 w.if-is_system.true))
      | else-is_system w ↦
          let same : c.if-is_system.systems.items ≡ old = rw w.systems-is in
          subst (λ (xs : List ℕ). IsListingBelow (IsSystem t) (node + 1) xs) (sym same)
          (listing_no (IsSystem t) node old c.loop-node.invariant (iff_false c.is_system.ensures w.if-is_system.false))
    ]

pub returns : goal.returns
returns c =
    let t = c.args.tree.now in
    listing_whole (IsSystem t) c.loop-node.node c.loop-node.systems.items (λ k is. omega (arith, system_within t k is)) c.loop-node.invariant
