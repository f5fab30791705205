pub mod ChildLemmas
pub mod KeptLemmas
pub mod BuildLemmas
pub mod Told
pub mod PathLemmas
