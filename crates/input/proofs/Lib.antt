pub mod Decimals
pub mod Filling
