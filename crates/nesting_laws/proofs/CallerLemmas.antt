-- The lemmas of this crate that others may cite.
pub use Rattle.nesting_laws.proofs.OneLemmas.{one_added, one_next, one_top}
pub use Rattle.nesting_laws.proofs.ProperLemmas.{proper_added, proper_top, proper_whole}
