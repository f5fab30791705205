pub mod Lines
pub mod Form
pub mod Faults
pub mod Walk
pub mod Parts
pub mod Written
