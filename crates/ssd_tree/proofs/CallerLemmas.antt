-- The lemmas of this crate that others may cite.
pub use Rattle.ssd_tree.proofs.ElementLemmas.{component_within, holder_cases, holder_within, parent_within, system_within}
pub use Rattle.ssd_tree.proofs.ListingLemmas.{contains_at, listing_no, listing_none, listing_yes, one_listing, one_place}
pub use Rattle.ssd_tree.proofs.OneLemmas.{alone_in_root}
pub use Rattle.ssd_tree.proofs.RootLemmas.{first_child_within, outermost_system}
pub use Rattle.ssd_tree.proofs.PlainLemmas.{leads_plain}
