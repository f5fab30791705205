pub mod CallerLemmas
mod Twins
mod Parting
mod Climbing
mod Alike
mod Keeping
mod Splitting
mod Once
mod Resuming
mod Reading
mod Lasts
