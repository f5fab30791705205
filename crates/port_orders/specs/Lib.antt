pub mod Placed
pub mod Outcome
pub mod Gathered
