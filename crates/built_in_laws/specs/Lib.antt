pub mod Clocks
pub mod BuiltInRuns
pub mod BuiltInBytes
