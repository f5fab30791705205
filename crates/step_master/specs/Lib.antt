pub mod System
pub mod FreshInstances
pub mod Master
pub mod Holding
pub mod Standing
pub mod Histories
pub mod Sessions
