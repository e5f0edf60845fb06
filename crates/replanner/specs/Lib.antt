pub mod Replan
pub mod Kept
