pub mod StepsBy
pub mod Standing
pub mod Places
pub mod Asked
