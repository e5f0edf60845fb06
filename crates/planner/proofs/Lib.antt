mod Copying
pub mod HandingOut
mod Solving
pub mod Shortest
