mod Zips
mod Keys
mod VariableLemmas
mod ClockLemmas
mod DependencyLemmas
pub mod ShapeLemmas
