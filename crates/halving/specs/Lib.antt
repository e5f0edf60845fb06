pub mod Afternoon
pub mod Halves
pub mod Inner
