pub mod TickLemmas
pub mod DigitLemmas
mod ShortestLemmas
mod DecimalLemmas
mod CutLemmas
mod ReadLemmas
