pub mod CallerLemmas
mod ListLemmas
mod FilterLemmas
mod OrderLemmas
mod LoopLemmas
mod SortLemmas
mod FindLemmas
mod ExamineLemmas
mod ReleaseLemmas
mod SpreadLemmas
mod SourceLemmas
mod GroupLemmas
