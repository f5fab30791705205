pub mod CallerLemmas
mod ListLemmas
mod LineLemmas
mod NameLemmas
mod WalkLemmas
mod ClockLemmas
mod FitLemmas
mod BodyLemmas
mod FaultLemmas
mod ShortLemmas
mod BeginLemmas
mod TextLemmas
mod PortLemmas
mod TraceLemmas
mod FirstLemmas
mod TableLemmas
mod WrittenLemmas
mod SizeLemmas
