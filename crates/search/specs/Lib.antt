pub mod Search
pub mod Horizons
