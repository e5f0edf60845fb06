mod ChargeLaws
mod SmallCharges
mod PriceLaws
pub mod Meaning
