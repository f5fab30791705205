-- The lemmas of this crate that others may cite.
pub use Rattle.trace_check.proofs.TraceLemmas.{instant_same}
