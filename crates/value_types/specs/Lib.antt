pub mod Values
pub mod Index
pub mod Shape
pub mod Reading
pub mod Joint
