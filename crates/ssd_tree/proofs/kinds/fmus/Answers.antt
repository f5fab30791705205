use Rattle.std.proofs.Common.{◌≡◌, ◌+◌, List, [], ◌∷◌, ◌++◌, ℕ, sym, subst, arith}
use Rattle.std.proofs.lemmas.Bool.{iff_false}
use Rattle.ssd_tree.specs.Rules.{IsFmu}
use Rattle.ssd_tree.specs.Listings.{IsListingBelow}
use Rattle.ssd_tree.proofs.ElementLemmas.{component_within}
use Rattle.ssd_tree.proofs.ListingLemmas.{listing_yes, listing_no, listing_whole}
use Rattle.ssd_tree.proofs.kinds.fmus.Goals as goal
use Rattle.ssd_tree.proofs.kinds.fmus.Goals.{then-is_fmu+in_ok-push, else-is_fmu}

pub loop-node-preserved : goal.loop-node-preserved
loop-node-preserved c =
    let s = c.args.setting in
    let t = c.args.tree.now in
    let node = c.loop-node.node in
    let old = c.loop-node.fmus.items in
    elim c.if-is_fmu.branch [
      | then-is_fmu+in_ok-push w ↦
          let pushed : c.if-is_fmu.fmus.items ≡ old ++ node ∷ [] = rw w.fmus-is w.in_ok-push.ensures.items in
          subst (λ (xs : List ℕ). IsListingBelow (IsFmu s t) (node + 1) xs) (sym pushed)
          (listing_yes (IsFmu s t) node old c.loop-node.invariant (c.is_fmu.ensures.0 w.if-is_fmu.true))
      | else-is_fmu w ↦
          let same : c.if-is_fmu.fmus.items ≡ old = rw w.fmus-is in
          subst (λ (xs : List ℕ). IsListingBelow (IsFmu s t) (node + 1) xs) (sym same)
          (listing_no (IsFmu s t) node old c.loop-node.invariant (iff_false c.is_fmu.ensures w.if-is_fmu.false))
    ]

pub returns : goal.returns
returns c =
    let s = c.args.setting in
    let t = c.args.tree.now in
    listing_whole (IsFmu s t) c.loop-node.node c.loop-node.fmus.items (λ k is. omega (arith, component_within t k is.0)) c.loop-node.invariant
