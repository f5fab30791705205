pub mod Path
pub mod Elements
pub mod Answers
pub mod Building
pub mod Rules
