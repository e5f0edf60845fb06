mod TailLaws
mod ForwardLaws
mod Leaves
mod Dropping
mod Dropped
mod ListedTests
mod Sparing
mod Behind
mod Walking
mod Attempts
mod Asking
mod Paging
pub mod WholeTasks
