pub mod CallerLemmas
mod ListLemmas
mod ReadLemmas
mod FactorLemmas
mod ChangeLemmas
