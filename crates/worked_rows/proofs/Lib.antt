mod TrioSound
pub mod ChainSound
pub mod TickingSound
