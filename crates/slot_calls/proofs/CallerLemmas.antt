-- The lemmas of this crate that others may cite.
pub use Rattle.slot_calls.proofs.Answered.{answered_none, answered_on, map_at, one_log, shape_of, shapes_same, stage_cut, stage_cut_later, stage_on, stops_on, stops_prefix, those_all}
pub use Rattle.slot_calls.proofs.Leading.{Led, led}
pub use Rattle.slot_calls.proofs.Moving.{called_bad, called_good, fatal_one, grade_no, state_by_good}
pub use Rattle.slot_calls.proofs.Logs.{has_none, askings_append, part_append, part_other, part_own, talks_fixed, talks_on, told_none, told_on, told_one}
pub use Rattle.slot_calls.proofs.Parts.{PartIs, first_same, none_before, other, part_asked, part_unasked, rest_same, same, sent_all, skips, stage_all, stage_those, takes, those_calls, those_within}
pub use Rattle.slot_calls.proofs.Replying.{replied_good, replies_back, replies_of, replies_prefix, state_by_append}
pub use Rattle.slot_calls.proofs.States.{last_on, saved_on, saved_same, served_on, stepped_on}
pub use Rattle.slot_calls.proofs.Turns.{SameFrom, at_rest, each_left, each_sent, each_stops, each_told, same_first, same_left, same_more, shape_there, turn_answered, turn_stops, turn_told}
pub use Rattle.slot_calls.proofs.Tokens.{saved_bad, saved_good, saved_is, saved_next}
pub use Rattle.slot_calls.proofs.Chains.{one_answered, one_failed, one_without, told_without}
