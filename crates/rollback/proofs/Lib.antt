pub mod CallerLemmas
mod Standing
mod Sending
mod Resting
mod Moving
mod OneAsking
mod Turning
mod OneTurn
mod Going
mod SavedSteps
mod Least
mod EndsAsked
mod AtOnce
