pub mod LinearLemmas
pub mod LastLemmas
pub mod MapLemmas
