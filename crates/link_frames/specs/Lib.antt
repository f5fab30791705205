pub mod Layout
pub mod Numbers
pub mod Head
pub mod Reply
pub mod Text
pub mod Call
pub mod Batch
