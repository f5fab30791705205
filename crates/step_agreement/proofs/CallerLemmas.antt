-- The lemmas of this crate that others may cite.
pub use Rattle.step_agreement.proofs.RoundInduction.{HasAlong, IsAlong, IsOfRound, along_agreement}
pub use Rattle.step_agreement.proofs.Alternating.{Alternates, alternates_from}
pub use Rattle.step_agreement.proofs.Apart.{AreApart, AreGoodSteps, EndsSo, IsBroken, IsGoodStep, all_there, round_calls, there_all}
pub use Rattle.step_agreement.proofs.Agreed.{stands_on, stand_on}
pub use Rattle.step_agreement.proofs.Asked.{EndWhereAsked, agree_within, asked_later, end_well, kept_asked}
pub use Rattle.step_agreement.proofs.Broken.{IsAskedIn, IsBadAsk, ToGoBack, ToStep, bad_ask}
pub use Rattle.step_agreement.proofs.Existence.{agrees_or_stops}
pub use Rattle.step_agreement.proofs.ByCount.{either, ends_so, first_all, first_one, meets_within, one_alone, only_saved_go_back, puts_back_saved, sizes_fall_along}
pub use Rattle.step_agreement.proofs.GoingBack.{all_first, all_whole, c_before, c_later, counts_elsewhere, elsewhere_saved, m_before, m_later, m_whole, m_within, same_shapes, saved_beside_two, two_at_last}
pub use Rattle.step_agreement.proofs.Lists.{map_map}
pub use Rattle.step_agreement.proofs.Machines.{agrees_over_machines, each_here, known_end}
pub use Rattle.step_agreement.proofs.Moves.{IsEnd, good_end, other_number, same_number}
pub use Rattle.step_agreement.proofs.Tracks.{asks_on, shape_kept}
pub use Rattle.step_agreement.proofs.Turns.{IsTo, IsTurn, those_to, turn}
pub use Rattle.step_agreement.proofs.OneFirst.{OneEarlyIn, all_meet, elsewhere_waits, m_later as one_later, m_within as one_within, one_first, waits as one_waits}
pub use Rattle.step_agreement.proofs.Underway.{IsKept, saved_in}
