pub mod Listed
pub mod Place
pub mod Shortest
pub mod Begins
pub mod Tails
