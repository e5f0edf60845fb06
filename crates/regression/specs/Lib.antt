pub mod Wanted
pub mod Normal
pub mod Tests
pub mod DeadEnd
