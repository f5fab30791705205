pub mod Binds
pub mod Rules
pub mod Given
pub mod Answers
pub mod Walk
