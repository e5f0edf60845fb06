pub mod Time
pub mod Earliest
pub mod Numbers
pub mod Choices
pub mod Entries
