mod Exchanges
mod Writing
pub mod InOrder
pub mod Checks
mod Finishing
