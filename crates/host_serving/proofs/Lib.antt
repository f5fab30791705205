pub mod CallerLemmas
mod FrameLemmas
mod HeadLemmas
mod ComingLemmas
mod ServingLemmas
mod ToldLemmas
mod LinkFrames
mod ItemLemmas
mod AnsweringLemmas
mod ToldMachines
