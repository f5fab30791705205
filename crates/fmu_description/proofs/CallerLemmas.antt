-- The lemmas of this crate that others may cite.
pub use Rattle.fmu_description.proofs.DistinctLemmas.{references_distinct}
pub use Rattle.fmu_description.proofs.SoundLemmas.{key_of, one_variable, timed_at}
pub use Rattle.fmu_description.proofs.StepLemmas.{source}
pub use Rattle.fmu_description.proofs.TableLemmas.{is_variable_within}
