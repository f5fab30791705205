pub mod CallerLemmas
mod TableLemmas
mod ScopeLemmas
mod ViolationLemmas
mod AnswerLemmas
mod LengthLemmas
