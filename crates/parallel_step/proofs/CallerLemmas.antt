-- The lemmas of this crate that others may cite.
pub use Rattle.parallel_step.proofs.Lifting.{lifted}
pub use Rattle.parallel_step.proofs.Pairs.{pairs_head, pairs_map, pairs_start, pairs_step, pairs_tail, pairs_whole}
