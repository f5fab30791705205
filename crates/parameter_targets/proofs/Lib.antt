pub mod CallerLemmas
mod ListLemmas
mod ChainLemmas
mod NameLemmas
mod PathLemmas
mod RowLemmas
mod LevelLemmas
mod SharedLemmas
mod TargetLemmas
