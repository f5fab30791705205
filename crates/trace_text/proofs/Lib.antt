pub mod HoldingLemmas
pub mod RestLemmas
pub mod RoomLemmas
