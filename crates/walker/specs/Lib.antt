pub mod Walk
pub mod Spare
pub mod Page
