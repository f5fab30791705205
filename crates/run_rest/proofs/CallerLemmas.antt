-- The lemmas of this crate that others may cite.
pub use Rattle.run_rest.proofs.Alike.{answered_across, any_across, bound_across, due_across, rearmed_across, timer_across}
pub use Rattle.run_rest.proofs.Keeping.{AreEmpty, AreTimersOf, IsKeepable, IsTimerOf, keeps_reached, keeps_updated, times_kept}
pub use Rattle.run_rest.proofs.Twins.{Alike, alike_refl, alike_sym}
pub use Rattle.run_rest.proofs.Resuming.{empty_held}
pub use Rattle.run_rest.proofs.Splitting.{held_departed}
