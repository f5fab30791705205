pub mod CallerLemmas
mod Pairs
mod Doing
mod Lifting
mod Bads
mod Firsts
mod Sharing
