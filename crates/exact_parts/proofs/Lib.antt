pub mod CallerLemmas
mod ListLemmas
mod TakingLemmas
mod AfterLemmas
mod MapLemmas
mod SpanLemmas
mod FieldLemmas
mod EachLemmas
mod SpellLemmas
