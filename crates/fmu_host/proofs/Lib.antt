pub mod Statuses
pub mod LinkLemmas
pub mod ReadLemmas
pub mod When
pub mod Exactly
pub mod Told
pub mod Rows
