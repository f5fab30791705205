-- The lemmas of this crate that others may cite.
pub use Rattle.fmu_peer.proofs.JudgedLemmas.{good_answered, why_failed}
pub use Rattle.fmu_peer.proofs.KeptStates.{plain_at}
pub use Rattle.fmu_peer.proofs.MachineLemmas.{in_phase_after, in_phase_lost, in_phase_taken_in}
pub use Rattle.fmu_peer.proofs.OrderLemmas.{same_number, spared_from, spares_later}
pub use Rattle.fmu_peer.proofs.TalkLemmas.{phase_from-append}
pub use Rattle.fmu_peer.proofs.WithoutMachine.{asked_without, asked_with_without, answered_without, answered_with_without, failed_without, failed_with_without}
