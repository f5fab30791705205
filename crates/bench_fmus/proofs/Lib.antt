pub mod CallerLemmas
mod WrapLemmas
mod WordLemmas
mod OrderLemmas
mod PackLemmas
mod ReadLemmas
mod SerializeLemmas
mod ValueLemmas
mod ClockLemmas
mod PeerLemmas
mod BuiltInLemmas
mod ScriptLemmas
