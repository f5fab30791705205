-- The lemmas of this crate that others may cite.
pub use Rattle.fmi_calls.proofs.KindLemmas.{same_kind-is}
