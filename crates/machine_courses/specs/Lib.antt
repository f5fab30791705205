pub mod Prefixes
pub mod Outcomes
pub mod Held
pub mod Kept
pub mod Laws
