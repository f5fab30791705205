pub mod Draws
pub mod Shapes
pub mod Generated
pub mod Parts
pub mod Suited
pub mod Counts
