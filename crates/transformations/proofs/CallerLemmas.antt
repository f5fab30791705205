-- The lemmas of this crate that others may cite.
pub use Rattle.transformations.proofs.ChangeLemmas.{one_boolean, one_change, one_whole}
pub use Rattle.transformations.proofs.ListLemmas.{none_beside, part_more, zip_same}
pub use Rattle.transformations.proofs.ReadLemmas.{named_once, some_read, unread}
