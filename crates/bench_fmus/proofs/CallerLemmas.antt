-- The lemmas of this crate that others may cite.
pub use Rattle.bench_fmus.proofs.BuiltInLemmas.{is_started}
pub use Rattle.bench_fmus.proofs.PeerLemmas.{answers_as, in_phase_kept, in_phase_taken, serializes_by, takes_in, talk_goes_on}
pub use Rattle.bench_fmus.proofs.ValueLemmas.{placed, value_of_found}
pub use Rattle.bench_fmus.proofs.WordLemmas.{number_back, word_back, wrapped_fits}
