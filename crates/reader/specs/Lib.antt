pub mod View
pub mod Placed
