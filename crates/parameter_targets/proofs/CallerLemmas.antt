-- The lemmas of this crate that others may cite.
pub use Rattle.parameter_targets.proofs.ChainLemmas.{left, left_smaller}
pub use Rattle.parameter_targets.proofs.ListLemmas.{contains_at, element_at, place_of, push_cases, read_at}
pub use Rattle.parameter_targets.proofs.PathLemmas.{depth_once}
