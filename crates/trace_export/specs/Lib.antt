pub mod Columns
pub mod Fields
pub mod Faults
pub mod Tables
