use Rattle.std.proofs.Common.{◌≡◌, ℕ, List, Some, Contains, slice_get, sym, subst}
use Rattle.ssd_tree.specs.Listings.{IsRising}
use Rattle.ssd_tree.proofs.indexed.IndexedTree.connector_place.Goals as goal

pub known_place-requires : goal.known_place-requires
known_place-requires c =
    let same = sym c.as_slice.ensures.value in
    record {
      rising = subst (λ (xs : List ℕ). IsRising xs) same c.requires.indexed.lists.connectors.rising;
      listed = subst (λ (xs : List ℕ). Contains xs c.args.node) same ((c.requires.indexed.lists.connectors.each c.args.node).1 c.requires.is);
    }

pub returns : goal.returns
returns c = subst (λ (xs : List ℕ). slice_get xs c.known_place.result ≡ Some c.args.node) c.as_slice.ensures.value c.known_place.ensures
