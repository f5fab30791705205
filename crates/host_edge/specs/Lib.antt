pub mod Reading
pub mod Streams
pub mod InStreams
