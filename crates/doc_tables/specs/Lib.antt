pub mod Elements
pub mod Tables
pub mod Violations
pub mod Answers
pub mod Places
pub mod Documents
