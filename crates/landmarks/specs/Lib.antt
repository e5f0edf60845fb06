pub mod Landmarks
pub mod Bounds
pub mod Tables
pub mod Openings
pub mod Marked
