pub mod Values
pub mod Ranges
pub mod Ready
