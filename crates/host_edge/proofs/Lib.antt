pub mod ReadLemmas
pub mod StreamLemmas
pub mod InStreamLemmas
