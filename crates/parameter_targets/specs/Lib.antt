pub mod Scopes
pub mod Chains
pub mod Tables
