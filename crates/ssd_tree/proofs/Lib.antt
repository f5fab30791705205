pub mod CallerLemmas
mod ListingLemmas
mod ElementLemmas
mod SourceLemmas
mod OneLemmas
mod PlainLemmas
mod EndLemmas
mod NameLemmas
mod NestedLemmas
mod RootLemmas
mod RuleLemmas
mod MisreadLemmas
mod PartLemmas
mod ScopeLemmas
mod ReadLemmas
