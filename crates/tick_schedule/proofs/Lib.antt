pub mod SiftLemmas
pub mod HeapLemmas
pub mod PointLemmas
pub mod ScheduleLemmas
pub mod CallerLemmas
pub mod PendingLemmas
