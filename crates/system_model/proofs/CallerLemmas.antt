-- The lemmas of this crate that others may cite.
pub use Rattle.system_model.proofs.EarlyLemmas.{Early, TwoEarly, counts_one, counts_two, none_early, some_early, two_early}
pub use Rattle.system_model.proofs.Labels.{AreApart, IsLabel, Labels, label_found, labelled, labels_apart}
pub use Rattle.system_model.proofs.Lists.{Partner, absent_from, all_at, all_by_place, at_contains, contains_at, filtered_partner, found_at, found_under, true_false}
pub use Rattle.system_model.proofs.OrderLemmas.{IsOrderFrom, order_by, order_by_number, order_from}
pub use Rattle.system_model.proofs.OutputsSound.{outputs_sound}
pub use Rattle.system_model.proofs.SoundLemmas.{Placed, clock_at, clock_type_of, events_of, is_input_of, is_output_of, kind_of_clock, own, place_of, source_at, within_of_clock}
