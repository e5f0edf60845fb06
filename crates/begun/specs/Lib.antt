pub mod RestOfDay
pub mod Kept
