pub mod Parted
pub mod Rest
pub mod Held
pub mod Snapshot
pub mod Packing
pub mod Lasting
pub mod Laws
