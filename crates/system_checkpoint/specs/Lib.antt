pub mod Parts
pub mod First
pub mod Whole
pub mod Spelling
pub mod Plans
