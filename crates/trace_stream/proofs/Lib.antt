pub mod CallerLemmas
mod StreamLemmas
mod ValueLemmas
mod ReadLemmas
