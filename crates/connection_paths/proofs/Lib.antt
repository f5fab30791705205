pub mod FirstLemmas
pub mod SourceLemmas
