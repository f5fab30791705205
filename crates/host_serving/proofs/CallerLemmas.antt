-- The lemmas of this crate that others may cite.
pub use Rattle.host_serving.proofs.ToldLemmas.{served_as_told}
pub use Rattle.host_serving.proofs.ToldMachines.{IsTold, RepliesInKind, has_frame, lost_by_fault, told_last}
