pub mod Shorts
pub mod Twins
