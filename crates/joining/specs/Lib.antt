pub mod Join
pub mod Answer
pub mod Parts
pub mod Inner
