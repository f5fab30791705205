pub mod Orderly
pub mod OwnNames
