pub mod Line
pub mod Happened
pub mod Description
pub mod Facts
pub mod Rows
pub mod Status
