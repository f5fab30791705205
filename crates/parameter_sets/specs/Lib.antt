pub mod Elements
pub mod Sets
pub mod Rules
pub mod Least
pub mod Parts
pub mod Answers
