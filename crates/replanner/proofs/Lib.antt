mod Begun
mod KeptSteps
mod Alone
mod Replanning
pub mod Shortest
