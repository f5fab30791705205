pub mod Pairs
pub mod View
pub mod Answers
