pub mod CallerLemmas
mod PlaceLemmas
mod OrderlyLemmas
mod NameLemmas
mod PartLemmas
mod PathLemmas
mod FilledLemmas
mod ProperLemmas
mod OneLemmas
