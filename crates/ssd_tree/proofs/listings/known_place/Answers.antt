use Rattle.std.proofs.Common.{Contains, Some, ◌≡◌, ℕ, slice_get}
use Rattle.std.proofs.lemmas.Option.{MatchOption-at_some}
use Rattle.ssd_tree.proofs.ListingLemmas.{some_place}
use Rattle.ssd_tree.proofs.listings.known_place.Goals as goal

pub unwrap-requires : goal.unwrap-requires
unwrap-requires c = some_place c.args.nodes.now c.args.node c.place_of.result c.requires.listed c.place_of.ensures

pub returns : goal.returns
returns c =
    MatchOption-at_some (Contains c.args.nodes.now c.args.node → ⊥) (λ (i : ℕ). slice_get c.args.nodes.now i ≡ Some c.args.node) c.unwrap.result c.unwrap.ensures c.place_of.ensures
