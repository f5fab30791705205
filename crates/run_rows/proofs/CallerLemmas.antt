-- The lemmas of this crate that others may cite.
pub use Rattle.run_rows.proofs.OrderTests.{sound_by}
