pub mod Characters
pub mod Grammar
pub mod Machine
pub mod Faults
pub mod Nodes
pub mod Laws
