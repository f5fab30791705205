pub mod CallerLemmas
mod ValueLemmas
mod WordLemmas
mod IndexLemmas
