pub mod CallerLemmas
mod MarkLemmas
mod KindLemmas
