-- The lemmas of this crate that others may cite.
pub use Rattle.rollback.proofs.EndsAsked.{some_ask_is}
