pub mod TrueDay
pub mod Inner
