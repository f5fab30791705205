-- The lemmas of this crate that others may cite.
pub use Rattle.dependency_order.proofs.FilterLemmas.{filter_back, order_filtered}
pub use Rattle.dependency_order.proofs.ListLemmas.{contains_none, in_pushed, in_pushed_back, in_same, list_below}
pub use Rattle.dependency_order.proofs.LoopLemmas.{loop_no_order}
pub use Rattle.dependency_order.proofs.SortLemmas.{marked_within}
pub use Rattle.dependency_order.proofs.SourceLemmas.{source_alone}
