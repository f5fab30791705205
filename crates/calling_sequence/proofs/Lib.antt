pub mod CourseInduction
pub mod Chains
pub mod Walks
pub mod Phases
pub mod Bindings
pub mod Sizes
pub mod Stands
pub mod ScheduleSteps
pub mod Onto
pub mod Stages
mod Staying
mod AgreedSteps
pub mod Ways
mod InTurn
mod KeptStates
mod Held
mod Restoring
mod Ended
mod Putting
mod Checkpoints
mod Resumed
mod ResumedStands
mod Unasked
