-- The lemmas of this crate that others may cite.
pub use Rattle.name_prefixes.proofs.PushLemmas.{pushed, pushed_before, pushed_last}
