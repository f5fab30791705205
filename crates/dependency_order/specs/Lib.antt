pub mod Graph
pub mod Answers
pub mod Grouped
pub mod Paths
pub mod Sorting
pub mod Spreading
