pub mod Readings
pub mod Outlines
pub mod Documents
pub mod Binding
pub mod Assembly
pub mod Faults
