pub mod Moves
pub mod Inlining
pub mod Inner
pub mod Folders
pub mod Numbers
pub mod Between
pub mod States
pub mod Nest
