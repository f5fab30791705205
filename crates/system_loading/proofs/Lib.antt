pub mod AssemblyLemmas
pub mod ReadingLemmas
pub mod TokenLemmas
pub mod WithinLemmas
pub mod BindingLemmas
pub mod LoneLemmas
