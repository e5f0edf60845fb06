pub mod Pooled
pub mod Inner
