pub mod Cut
pub mod Reading
pub mod Streams
