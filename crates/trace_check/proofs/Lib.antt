pub mod CallerLemmas
pub mod ValueLemmas
pub mod SourceLemmas
pub mod InstantLemmas
pub mod TraceLemmas
pub mod TickLemmas
pub mod InputLemmas
pub mod LawLemmas
