pub mod Instants
pub mod Values
pub mod Ticks
pub mod Rules
pub mod Inputs
pub mod Steps
