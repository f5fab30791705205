-- The lemmas of this crate that others may cite.
pub use Rattle.doc_tables.proofs.AnswerLemmas.{faults, refuses, refuses_first}
pub use Rattle.doc_tables.proofs.LengthLemmas.{IsOnce, no_longer}
pub use Rattle.doc_tables.proofs.TableLemmas.{IsWithin, and_right, free_from, is_in_within, key_if_true, or_cases, table_empty, table_whole}
pub use Rattle.doc_tables.proofs.ViolationLemmas.{AreApart, IsListed, KeepsBelow, all_sound, keeps_all, least_at, none_sound}
