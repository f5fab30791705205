pub mod CallerLemmas
mod States
mod Logs
mod Answered
mod Leading
mod Turns
mod Moving
mod Replying
mod Parts
mod Several
mod Tokens
mod Chains
mod StatesAsBytes
