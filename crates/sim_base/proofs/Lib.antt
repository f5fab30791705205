pub mod EscapeLemmas
pub mod PathLemmas
mod PartedLemmas
pub mod SinkLemmas
pub mod SourceLemmas
pub mod ReadLemmas
pub mod ShareLemmas
