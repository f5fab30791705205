pub mod Trio
pub mod Chain
pub mod Ticking
pub mod OwnCounter
pub mod OwnCounterLaws
pub mod Ticker
pub mod TickerView
pub mod TickerLaws
