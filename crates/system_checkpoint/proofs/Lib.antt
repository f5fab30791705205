pub mod CallerLemmas
mod PartLemmas
mod ListLemmas
mod FirstLemmas
mod WholeLemmas
mod SpellingLemmas
mod LengthLemmas
mod PutLemmas
mod PlanLemmas
