pub mod Counts
pub mod Ticks
pub mod Decimal
