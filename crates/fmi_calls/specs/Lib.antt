pub mod Kinds
pub mod KindFacts
pub mod Worth
pub mod Permission
pub mod Next
