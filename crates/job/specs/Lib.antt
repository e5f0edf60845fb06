pub mod Job
pub mod Refusal
pub mod Resources
pub mod Lengths
pub mod Valid
pub mod Resumed
pub mod Passed
