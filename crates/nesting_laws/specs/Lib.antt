pub mod Says
pub mod Proper
