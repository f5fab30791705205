-- The lemmas of this crate that others may cite.
pub use Rattle.system_checkpoint.proofs.LengthLemmas.{arming_len, option_len, times_len}
pub use Rattle.system_checkpoint.proofs.PutLemmas.{next_room, piece_fits}
