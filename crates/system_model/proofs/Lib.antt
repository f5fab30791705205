pub mod CallerLemmas
mod Lists
mod EarlyLemmas
mod Labels
mod SoundLemmas
mod OrderLemmas
mod OutputsSound
mod ExampleSound
mod CarriedLemmas
mod CarriedRows
