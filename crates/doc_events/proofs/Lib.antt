pub mod CallerLemmas
mod Names
mod Steps
mod CommonPrefix
mod Told
