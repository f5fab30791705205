pub mod CallerLemmas
mod Written
mod Alike
mod Unique
mod Solvable
mod Decided
mod States
mod Initially
mod InitiallySolvable
mod StepsOnce
mod OneTrace
pub mod TraceOnce
mod Midst
mod AlongRun
mod Behaves
mod WhoIsFirst
mod PlainTraces
