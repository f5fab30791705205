pub mod SavedStates
pub mod Log
pub mod Stage
pub mod Rounds
pub mod Carried
pub mod Slots
pub mod Replies
pub mod Keeping
