pub mod RunLemmas
pub mod BetweenLemmas
pub mod PutLemmas
pub mod NestLemmas
pub mod SeamLemmas
pub mod InnerLemmas
