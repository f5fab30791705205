pub mod Filling
pub mod Links
pub mod LinkLaws
