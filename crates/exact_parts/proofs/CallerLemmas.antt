-- The lemmas of this crate that others may cite.
pub use Rattle.exact_parts.proofs.AfterLemmas.{Followed, after_single, first_bad, first_more, next_takes}
pub use Rattle.exact_parts.proofs.EachLemmas.{Goes, HasSome, LeadsTo, each_followed, each_single, each_some, goes_at_first, goes_bad, goes_end, goes_more, goes_on, led_bad, led_more, led_some}
pub use Rattle.exact_parts.proofs.FieldLemmas.{are_bytes, field_filled, field_single, taken_bytes}
pub use Rattle.exact_parts.proofs.ListLemmas.{cut, drop_later}
pub use Rattle.exact_parts.proofs.MapLemmas.{Same, kept_single, kept_takes, made_breaks, made_got, made_prefix, made_single, same_takes}
pub use Rattle.exact_parts.proofs.SpellLemmas.{Only, field_1, field_4, field_8, number_8, only_1, only_4, only_8}
pub use Rattle.exact_parts.proofs.TakingLemmas.{begins, begins_cut, got_breaks, not_within_all, only_one}
