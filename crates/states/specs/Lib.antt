pub mod Minutes
pub mod Amounts
pub mod States
pub mod Unions
pub mod Moves
