pub mod Wire
pub mod MemWire
pub mod Exchange
pub mod Instance
pub mod Piped
pub mod Batches
