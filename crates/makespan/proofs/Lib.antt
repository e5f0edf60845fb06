pub mod Search
pub mod LeastEnds
pub mod OldRule
