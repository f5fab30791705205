pub mod CallerLemmas
mod Keepable
mod Leaving
mod Living
mod Parted
mod Resuming
mod FreshLemmas
mod WithoutMachines
mod SessionLemmas
