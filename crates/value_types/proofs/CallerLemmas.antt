-- The lemmas of this crate that others may cite.
pub use Rattle.value_types.proofs.IndexLemmas.{find_missing, find_placed, lower_second, not_before, pair_total, placed_within, position-map, position_first, rising}
pub use Rattle.value_types.proofs.WordLemmas.{fits_of, fitting, number_of_word}
