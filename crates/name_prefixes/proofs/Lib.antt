pub mod CallerLemmas
mod OrderLemmas
mod PushLemmas
mod SortLemmas
mod StepLemmas
