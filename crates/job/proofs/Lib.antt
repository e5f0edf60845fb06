pub mod Table
pub mod Rows
pub mod Values
pub mod Passed
pub mod Resuming
mod Answers
mod Agree
mod SameParts
pub mod ResourceLaws
pub mod LengthLaws
mod BeyondLaws
mod BrokenLaws
