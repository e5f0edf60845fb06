pub mod Price
pub mod Charges
