pub mod CallerLemmas
mod SoundLemmas
mod StepLemmas
mod KindLemmas
mod OneLemmas
mod TableLemmas
mod TextLemmas
mod MarkLemmas
mod FollowLemmas
mod IntervalLemmas
mod MisreadLemmas
mod PastLemmas
mod RuleLemmas
mod TableUse
mod NameLemmas
mod PlaceLemmas
mod DistinctLemmas
