pub mod Wrote
pub mod Room
