pub mod Rooms
pub mod Files
pub mod Documents
pub mod Order
pub mod Loads
pub mod Steps
pub mod Holding
