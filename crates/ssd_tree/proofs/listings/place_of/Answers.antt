use Rattle.std.proofs.Common.{Contains, MatchOption, Option, Some, ◌≡◌, ℕ, slice_get, sym, subst}
use Rattle.ssd_tree.proofs.ListingLemmas.{place}
use Rattle.ssd_tree.proofs.listings.place_of.Goals as goal

pub returns : goal.returns
returns c =
    let nodes = c.args.nodes.now in
    let node = c.args.node in
    subst (λ (o : Option ℕ). MatchOption o (Contains nodes node → ⊥) (λ i. slice_get nodes i ≡ Some node)) (sym c.ok.ensures.value)
    (place nodes node c.binary_search.result c.requires c.binary_search.ensures.position)
