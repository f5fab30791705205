mod WellLemmas
mod Timings
mod Keeping
mod AlongRun
mod BuiltInRuns
mod Ranges
mod Bytes
