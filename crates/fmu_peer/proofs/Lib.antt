pub mod CallerLemmas
mod TalkLemmas
mod MachineLemmas
mod CloseLemmas
mod JudgedLemmas
mod WithoutMachine
mod OrderLemmas
mod ShutLemmas
pub mod ManyLemmas
pub mod SeveralLemmas
pub mod KeptStates
