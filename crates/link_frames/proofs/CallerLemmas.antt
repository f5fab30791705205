-- The lemmas of this crate that others may cite.
pub use Rattle.link_frames.proofs.BatchHeads.{counted_batch, head_tells}
pub use Rattle.link_frames.proofs.BatchLaws.{batch_begins, call_batch_long, call_batches_apart, call_begins, call_items_stand, one_call_batch, one_reply_batch, reply_batch_long, reply_items_stand}
pub use Rattle.link_frames.proofs.BatchLemmas.{calls_single, replies_single}
pub use Rattle.link_frames.proofs.CallLemmas.{call_single}
pub use Rattle.link_frames.proofs.HeadLemmas.{head_length}
pub use Rattle.link_frames.proofs.ReplyLemmas.{reply_single}
