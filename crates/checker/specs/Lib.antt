pub mod Check
pub mod Leaf
pub mod Watch
